-- From the documents that are loaded one after another to the repeated keys of an input.
use Rattle.std.proofs.Common.{◌≡◌, ◌⊎◌, ◌∙◌, inl, inr, refl, sym, subst, ap, ℕ, List, [], ◌∷◌, ◌++◌, append_assoc, append-nil, Option, None, Some, Result, Ok, Err, Vec}
use Rattle.std.specs.Prelude.{◌↔◌, All}
use Rattle.std.proofs.lemmas.List.Elements.{All-nil, All-cons, All-head, All-tail}
use Rattle.yaml_scan_model.specs.declared.name.yaml_encoding_t.{yaml_encoding_t}
use Rattle.yaml_scan_model.specs.declared.fault.yaml_fault_t.{yaml_fault_t}
use Rattle.yaml_scan_model.specs.scan_types.Faults.{Fault, fault_of, IsMemoryFault, load_layers}
use Rattle.yaml_round_engine.specs.parse_model.Documents.{Document}
use Rattle.yaml_round_engine.specs.parse_grammar.Remaining.{ParserRemaining}
use Rattle.yaml_round_engine.specs.round_content.Input.{ReadsInput}
use Rattle.yaml_round_engine.specs.round_content.Loads.{Loads, no_more, loads_of}
use Rattle.yaml_round_engine.specs.round_content.PlainLoading.{PlainLoading}
use Rattle.yaml_round_engine.specs.round_content.Normal.{ended}
use Rattle.yaml_round_engine.specs.Reload.{to_load, LoadsDocument}
use Rattle.yaml_round_engine.proofs.Reloading.{reads_to_load}
use Rattle.yaml_round_engine.proofs.Loaded.{faultless_load, faulty_load, one_loading}
use Rattle.yaml_round_documents.specs.declared.repeated.yaml_same_key_t.{yaml_same_key_t}
use Rattle.yaml_round_documents.specs.Telling.{HaveDistinctKeys, TellsMore}
use Rattle.yaml_round_documents.proofs.Distinct.{distinct}
use Rattle.yaml_round.specs.Keys.{AreTold, HasDistinctKeys, IsKeyCheck}

-- ---- one document more

-- the repeated keys of the documents that are left, after what is reported of all
abbrev pub TellsOn : List Document → List yaml_same_key_t → List Document → Type 0
TellsOn left told all = (rest : List yaml_same_key_t) → AreTold left rest → AreTold all (told ++ rest)

pub told_first : (all : List Document) (told : List yaml_same_key_t) → told ≡ []
    → TellsOn all told all
told_first all told e rest h = subst (λ z. AreTold all (z ++ rest)) (sym e) h

pub told_on : (all : List Document) (old new : List yaml_same_key_t) (d : Document)
    (r s : ParserRemaining) → TellsOn (to_load r).documents old all → LoadsDocument d r s
    → TellsMore d.nodes old new → TellsOn (to_load s).documents new all
told_on all old new d r s h l (keys, e, t) rest k =
    let docs : (to_load r).documents ≡ d ∷ (to_load s).documents = ap (λ (z : Loads). z.documents) l.same in
    let more = h (keys ++ rest) (subst (λ z. AreTold z (keys ++ rest)) (sym docs) (keys, rest, refl, t, k)) in
    subst (AreTold all) (sym (append_assoc old keys rest) ∙ ap (λ z. z ++ rest) (sym e)) more

-- ---- all documents

-- ends of documents are no part of it
ended_told : (ds : List Document) (told : List yaml_same_key_t) → AreTold (ended ds) told
    → AreTold ds told
ended_told [] told h = h
ended_told (d ∷ ds) told (keys, others, e, t, k) = (keys, others, e, t, ended_told ds others k)

pub told_all : (from : yaml_encoding_t) (input : List ℕ) (told : List yaml_same_key_t)
    (r s : ParserRemaining) → ReadsInput from input r
    → TellsOn (to_load s).documents told (to_load r).documents
    → (to_load s).fault ≡ (to_load r).fault → to_load s ≡ no_more None
    → IsKeyCheck from input (Ok told)
told_all from input told r s reads h f e =
    let all = reads_to_load from input r reads in
    let none : AreTold (to_load s).documents [] = subst (λ (z : Loads). AreTold z.documents []) (sym e) refl in
    let behind = subst (AreTold (to_load r).documents) (append-nil told) (h [] none) in
    let of_input = subst (λ (z : Loads). AreTold z.documents told) all behind in
    let right : (loads_of from input).fault ≡ None = ap (λ (z : Loads). z.fault) (sym all) ∙ sym f ∙ ap (λ (z : Loads). z.fault) e in
    ((loads_of from input).documents, faultless_load from input right, ended_told (loads_of from input).documents told of_input)

pub told_refused : (from : yaml_encoding_t) (input : List ℕ) (r s : ParserRemaining)
    (g : yaml_fault_t) → ReadsInput from input r → (to_load s).fault ≡ (to_load r).fault
    → IsMemoryFault load_layers (fault_of g) ⊎ (to_load s ≡ no_more (Some (fault_of g)))
    → IsMemoryFault load_layers (fault_of g) ⊎ IsKeyCheck from input (Err (fault_of g))
told_refused from input r s g reads f e = elim e [
  | inl m ↦ inl m
  | inr k ↦ inr (faulty_load from input (fault_of g) (ap (λ (z : Loads). z.fault) (sym (reads_to_load from input r reads)) ∙ sym f ∙ ap (λ (z : Loads). z.fault) k))
]

-- ---- distinct keys

abbrev IsDistinct : Document → Type 0
IsDistinct d = HaveDistinctKeys d.nodes

no_front : (xs ys : List yaml_same_key_t) → xs ++ ys ≡ [] → (xs ≡ []) × (ys ≡ [])
no_front [] ys e = (refl, e)
no_front (x ∷ xs) ys e = absurd (cc)

none_distinct : (ds : List Document) (told : List yaml_same_key_t) → AreTold ds told → told ≡ []
    → All IsDistinct ds
none_distinct [] told h e = All-nil IsDistinct
none_distinct (d ∷ ds) told (keys, others, is, t, k) e =
    let parts = no_front keys others (sym is ∙ e) in
    All-cons IsDistinct d ds ((distinct d.nodes keys t).0 parts.0) (none_distinct ds others k parts.1)

distinct_none : (ds : List Document) (told : List yaml_same_key_t) → AreTold ds told
    → All IsDistinct ds → told ≡ []
distinct_none [] told h a = h
distinct_none (d ∷ ds) told (keys, others, is, t, k) a =
    is ∙ ap (λ z. z ++ others) ((distinct d.nodes keys t).1 (All-head IsDistinct d ds a)) ∙ distinct_none ds others k (All-tail IsDistinct d ds a)

same_documents : (ds es : List Document) (r : Result (List Document) Fault) → r ≡ Ok ds
    → r ≡ Ok es → ds ≡ es
same_documents ds es r p q = cc

-- The list is empty exactly where the keys of each mapping are distinct.
pub told_none : (from : yaml_encoding_t) (input : List ℕ) (told : List yaml_same_key_t)
    → IsKeyCheck from input (Ok told) → (told ≡ []) ↔ HasDistinctKeys from input
told_none from input told (ds, loading, t) = (
  λ e. (ds, loading, none_distinct ds told t e),
  λ h. distinct_none ds told t (subst (All IsDistinct) (same_documents h.0 ds (Ok h.0) refl (one_loading from input (Ok h.0) (Ok ds) h.1 loading)) h.2),
)
