-- The first load of a new parser.
use Rattle.std.proofs.Common.{◌≡◌, ◌⊎◌, ap, sym, subst, inl, inr, ℕ, List, [], ◌∷◌, Result, Ok, Err, IfOk, IfErr}
use Rattle.yaml_scan.specs.declared.yaml_encoding_t.{yaml_encoding_t}
use Rattle.yaml_scan.specs.declared.yaml_fault_t.{yaml_fault_t}
use Rattle.yaml_scan.specs.declared.yaml_origin_t.{yaml_origin_t}
use Rattle.yaml_scan.specs.declared.yaml_error_type_t.TheVariants.{YAML_MEMORY_ERROR}
use Rattle.yaml_scan.specs.scan_types.Faults.{Fault, fault_of, IsMemoryFault, load_layers, Answers}
use Rattle.yaml_scan.specs.Remaining as scan
use Rattle.yaml_parse.specs.Documents.{Document}
use Rattle.yaml_parse.specs.NextLoad.{NextLoad, next_document, next_fault, next_none, IsNextLoad, GivesLoad, IsRefusalOf, AreLoadsByContent, LoadIsNext, RefusalIsNext}
use Rattle.yaml_parse.proofs.NextLoads.{next_load}
use Rattle.yaml_parse.specs.Remaining.{ParserRemaining}
use Rattle.yaml_parse.specs.Resolve.{Reading}
use Rattle.yaml_parse.specs.parse_laws_trees.Places.{FaultOfTokens}
use Rattle.yaml_parse.specs.parse_laws_trees.Given.{EventsOfTokens}
use Rattle.yaml_cli_lookup.specs.declared.error.LookupError.{LookupError}
use Rattle.yaml_cli_lookup.specs.declared.error.LookupError.TheVariants.{Unreadable, NotAMapping, OutOfMemory, CopyRefused}
use Rattle.yaml_cli_lookup.specs.Errors.{IsErrorOf}
use Rattle.yaml_cli_lookup.specs.Lookup.{IsDue}
use Rattle.yaml_cli_lookup.specs.Input.{tokens_of, IsReadingOf, outcome, IsFirstDocument}

-- the first load of a parser of these tokens is that of the input
first_load : (encoding : yaml_encoding_t) (input : List ℕ) (c : scan.Remaining)
    (p : ParserRemaining) (first : Result Document Fault) (n : NextLoad)
    → c ≡ tokens_of encoding input → EventsOfTokens c.tokens c.fault p.events
    → FaultOfTokens c.tokens c.fault p.ending
    → IsNextLoad p n → first ≡ outcome n → IsFirstDocument encoding input first
first_load encoding input c p first n is events ending next same =
    let r : Reading = record { events = p.events; ending = p.ending } in
    let parsed : IsReadingOf c r = record { events = events; ending = ending } in
    record { reading = r; parsed = subst (λ (z : scan.Remaining). IsReadingOf z r) is parsed; load = n; unasked = p.ending_unasked; is = next; same = same }

gives : (n : NextLoad) (d : Document) (old new : ParserRemaining) → GivesLoad n d old new
    → Ok d ≡ outcome n
gives (next_document e left unasked) d old new g = ap Ok g.0
gives next_none d old new g = ap Ok g.0
gives (next_fault f unasked) d old new g = absurd g

refuses : (n : NextLoad) (f : Fault) (unasked : ℕ) → IsRefusalOf n f unasked → Err f ≡ outcome n
refuses (next_document e left count) f unasked h = absurd h
refuses next_none f unasked h = absurd h
refuses (next_fault g count) f unasked h = ap Err h.0

pub first_answers : (encoding : yaml_encoding_t) (input : List ℕ) (c : scan.Remaining)
    (p q : ParserRemaining)
    (r : Result Document yaml_fault_t)
    → c ≡ tokens_of encoding input → EventsOfTokens c.tokens c.fault p.events
    → FaultOfTokens c.tokens c.fault p.ending
    → AreLoadsByContent p → IfOk r (λ d. LoadIsNext p d q)
    → IfErr r (λ f. RefusalIsNext p (fault_of f) q)
    → Answers load_layers (λ d. d) (IsFirstDocument encoding input) r
first_answers encoding input c p q (Ok d) is events ending loads g h =
    let n = next_load p.ending p.ending_unasked p.events loads in
    first_load encoding input c p (Ok d) n.load is events ending n.is (gives n.load d p q (g n.load n.is))
first_answers encoding input c p q (Err f) is events ending loads g h =
    let n = next_load p.ending p.ending_unasked p.events loads in
    elim (h n.load n.is).reason [
      | inl m ↦ inl m
      | inr k ↦ inr (first_load encoding input c p (Err (fault_of f)) n.load is events ending n.is (refuses n.load (fault_of f) q.unasked k))
    ]

-- ---- the error that a fault is

memory_kind : (layers : List yaml_origin_t) (f : Fault) → IsMemoryFault layers f
    → f.kind ≡ YAML_MEMORY_ERROR
memory_kind [] f h = absurd h
memory_kind (o ∷ []) f h = ap (λ (x : Fault). x.kind) h
memory_kind (o ∷ (p ∷ os)) f h = elim h [ inl e ↦ ap (λ (x : Fault). x.kind) e | inr k ↦ memory_kind (p ∷ os) f k ]

pub due : (First : Result Document Fault → Type 0) (f : yaml_fault_t) (e : LookupError)
    → IsErrorOf f e
    → IsMemoryFault load_layers (fault_of f) ⊎ First (Err (fault_of f)) → IsDue First e
due First f (Unreadable g) h k = elim k [
  | inl m ↦ absurd (h.1 (memory_kind load_layers (fault_of f) m))
  | inr p ↦ subst (λ (z : yaml_fault_t). First (Err (fault_of z))) (sym h.0) p
]
due First f NotAMapping h k = absurd h
due First f (OutOfMemory g) h k = subst (λ (z : yaml_fault_t). IsDue First (OutOfMemory z)) (sym h.0) (h.1, k)
due First f CopyRefused h k = absurd h
