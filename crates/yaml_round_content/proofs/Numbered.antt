-- What is loaded of events that are documents' is their numbering.
use Rattle.std.proofs.Common.{◌≡◌, ℕ, List, [], ◌∷◌, Option, Some, None, Result, Ok, Err, refl, ap, sym, ◌∙◌}
use Rattle.yaml_round_content.proofs.Words.{told_by, load_of, Token, Fault, Event, Span, Stream, Reading, Told, DocumentContent, document_of, Loading, LoadStep, goes_on, loaded, nothing_loaded, step, tokens_of, Loads, no_more, in_front, load_on, load_all, tree_documents, loaded_documents, placed_events, tree_events, events_told, read_of, end_of, numbered_one, EventsArePlaced, LoadsAreNumbered, InputsAreNumbered, by_next, LoadsAreOneByOne}
use Rattle.yaml_emit_laws.proofs.Ending.{fault_ends}
use Rattle.yaml_parse_model.specs.Documents as documents
use Rattle.yaml_parse_loader.specs.Loading.{refused}
use Rattle.yaml_emit_laws.specs.parse_laws_trees.NextLoad.{NextLoad, next_fault}
use Rattle.yaml_emit_laws.proofs.ByStep as parse
use Rattle.yaml_emit_laws.proofs.NextLoads.{IsOf, load_is}
use Rattle.yaml_round_content.proofs.Joining.{tree_read, read_is}
use Rattle.yaml_round_content.proofs.Placed.{tree_reads}
use Rattle.yaml_round_content.proofs.Loading.{LoadsDocuments, by_number}

-- ---- the first document of events; how many tokens aren't asked for counts for nothing

on_alike : (c : LoadStep) (p q : Loading → Loads) → ((l : Loading) → p l ≡ q l)
    → load_on c p ≡ load_on c q
on_alike (goes_on m) p q h = h m
on_alike (loaded d) p q h = ap (λ (x : Loads). in_front d.nodes d x) (h nothing_loaded)
on_alike (refused f) p q h = refl

counts_aside : (gs : List Told) (f : Option Fault) (l : Loading)
    → load_all gs f l ≡ load_all (told_by (events_told gs)) f l
unfolding load_all
counts_aside [] f l = refl
counts_aside (g ∷ gs) f l = on_alike (step g.0 l) (load_all gs f) (load_all (told_by (events_told gs)) f) (λ m. counts_aside gs f m)

-- ---- documents

numbered_is : (r : Result documents.Document Fault) (more : Loads)
    → load_of r more ≡ numbered_one r more
numbered_is (Ok d) more = refl
numbered_is (Err f) more = refl

each_numbered : LoadsDocuments → (ds : List DocumentContent) (s : Span)
    → load_all (told_by (placed_events ds s)) None nothing_loaded ≡ loaded_documents ds
unfolding load_all
each_numbered loads [] s = refl
each_numbered loads (d ∷ ds) s =
    by_number (document_of d) (placed_events (d ∷ ds) s) (placed_events ds s) nothing_loaded (loaded_documents ds) (loads d (placed_events ds s) nothing_loaded) (each_numbered loads ds s)
    ∙ numbered_is (document_of d) (loaded_documents ds)

-- ---- a source

pub events_placed : EventsArePlaced
events_placed ts own b = ap (λ (r : Reading). events_told r.events) (tree_read ts own b) ∙ tree_reads b.tree b.rest (ap (λ (r : Reading). r.ending) (sym (tree_read ts own b)) ∙ fault_ends ts own None b)

start_aside : (t : Stream) (es : List Event) (rest : List Token) → es ≡ tree_events t rest
    → load_all (told_by es) None nothing_loaded
    ≡ load_all (told_by (placed_events (tree_documents t rest) (end_of t.documents))) None
    nothing_loaded
unfolding load_all
start_aside t es rest e = ap (λ (xs : List Event). load_all (told_by xs) None nothing_loaded) e

pub loads_numbered : LoadsDocuments → LoadsAreNumbered
loads_numbered loads ts own b =
    let e : (read_of ts own).ending ≡ None = fault_ends ts own None b in
    ap (λ (f : Option Fault). load_all (read_of ts own).events f nothing_loaded) e
    ∙ counts_aside (read_of ts own).events None nothing_loaded
    ∙ start_aside b.tree (events_told (read_of ts own).events) b.rest (events_placed ts own b)
    ∙ each_numbered loads (tree_documents b.tree b.rest) (end_of b.tree.documents)

pub inputs_numbered : LoadsDocuments → InputsAreNumbered
inputs_numbered loads from input b =
    ap (λ (r : Reading). load_all r.events r.ending nothing_loaded) (read_is from input)
    ∙ loads_numbered loads (tokens_of from input).tokens (tokens_of from input).fault b

-- ---- one load after another

abbrev by_first : parse.Loads → Option Fault → Loads
by_first (parse.document d left unasked) f = in_front d.nodes d (load_all left f nothing_loaded)
by_first (parse.faulty e) f = no_more (Some e)
by_first parse.nothing f = no_more None

at_end : (f : Option Fault) → no_more f ≡ by_first (parse.behind_all f) f
at_end None = refl
at_end (Some e) = refl

first_on : (c : LoadStep) (gs : List Told) (f : Option Fault) (n : ℕ)
    → ((m : Loading) → load_all gs f m ≡ by_first (parse.loads gs f m) f)
    → load_on c (load_all gs f) ≡ by_first (parse.load_on c (parse.loads gs f) gs n) f
first_on (goes_on m) gs f n h = h m
first_on _ gs f n h = refl

one_more : (gs : List Told) (f : Option Fault) (l : Loading)
    → load_all gs f l ≡ by_first (parse.loads gs f l) f
unfolding load_all parse.loads
one_more [] f l = at_end f
one_more (g ∷ gs) f l = first_on (step g.0 l) gs f g.1 (λ m. one_more gs f m)

as_next : (n : NextLoad) (r : parse.Loads) (u : ℕ) (f : Option Fault) → IsOf n r u
    → by_first r f ≡ by_next n f
as_next (next_fault e count) r u f h = ap (λ (x : parse.Loads). by_first x f) h.0
as_next _ r u f h = ap (λ (x : parse.Loads). by_first x f) h

pub one_by_one : LoadsAreOneByOne
one_by_one gs f unasked n h = one_more gs f nothing_loaded ∙ as_next n _ _ f (load_is gs f unasked n h)
