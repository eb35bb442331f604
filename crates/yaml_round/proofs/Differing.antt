-- From the documents that two inputs load, and where their contents part, to all places where they differ.
use Rattle.std.proofs.Common.{◌≡◌, ◌∙◌, inl, inr, subst, sym, ap, refl, ℕ, Bool, true, false, List, [], ◌∷◌, ◌++◌, Option, Some, None, Result, Ok, Err}
use Rattle.std.specs.Prelude.{◌↔◌}
use Rattle.std.proofs.lemmas.List.{map-append}
use Rattle.yaml_scan_model.specs.declared.name.yaml_encoding_t.{yaml_encoding_t}
use Rattle.yaml_scan_model.specs.declared.fault.yaml_fault_t.{yaml_fault_t}
use Rattle.yaml_scan_model.specs.scan_types.Faults.{fault_of}
use Rattle.yaml_round_engine.specs.parse_model.Documents.{Document}
use Rattle.yaml_round_engine.specs.parse_grammar.Resolve.{Told}
use Rattle.yaml_round_engine.specs.parse_model.Events.{EventBody}
use Rattle.yaml_round_engine.specs.Answers.{SameContent}
use Rattle.yaml_round_engine.specs.round_reading.Reading.{contents}
use Rattle.yaml_round_engine.specs.Reload.{AreLoaded}
use Rattle.yaml_round_engine.proofs.Plain.{content_same, events_are}
use Rattle.yaml_round_engine.specs.declared.yaml_side_t.{yaml_side_t}
use Rattle.yaml_round_engine.specs.declared.difference.yaml_difference_t.{yaml_difference_t}
use Rattle.yaml_round_engine.specs.Differences.{saying, IsParting}
use Rattle.yaml_round_engine.specs.Loaded.{IsSideShort}
use Rattle.yaml_round_documents.specs.Streams.{AreEqualStreams, AreStreamDifferences}
use Rattle.yaml_round.specs.declared.differences.yaml_differences_t.{yaml_differences_t}
use Rattle.yaml_round.specs.AllDifferences.{AreAlike, AreContentDifferences, AreDifferences, ArePlaces, IsComparison, TellsNothing}

-- ---- by documents

pub all_compared : (a_from : yaml_encoding_t) (a : List ℕ) (b_from : yaml_encoding_t)
    (b : List ℕ) (ds es : List Document) (r : Result yaml_differences_t (yaml_side_t × yaml_fault_t))
    → AreLoaded a_from a ds → AreLoaded b_from b es → IsComparison ds es r
    → AreDifferences a_from a b_from b true r
all_compared a_from a b_from b ds es (Ok d) h k c = (
  record {
    first = subst (AreLoaded a_from a) (sym c.0) h;
    second = subst (AreLoaded b_from b) (sym c.1) k;
    differ = subst (λ z. AreStreamDifferences 0 z d.second.items d.pairs.items d.told.items) (sym c.0) (subst (λ z. AreStreamDifferences 0 ds z d.pairs.items d.told.items) (sym c.1) c.2);
    equal = subst (λ z. (d.told.items ≡ []) ↔ AreEqualStreams z d.second.items) (sym c.0) (subst (λ z. (d.told.items ≡ []) ↔ AreEqualStreams ds z) (sym c.1) c.3);
  },
  c.4,
)
all_compared a_from a b_from b ds es (Err f) h k c = inl (subst (λ s. IsSideShort a_from a s (fault_of f.1)) (sym c.0) c.1)

-- ---- by contents

abbrev say : Told → EventBody
say t = saying t.0.body

pub tails : {A : Type 0} (a b : A) (x y : List A) → a ∷ x ≡ b ∷ y → x ≡ y
tails a b x y e = cc

pub firsts : {A : Type 0} (a b : A) (x y : List A) → a ∷ x ≡ b ∷ y → a ≡ b
firsts a b x y e = cc

-- after one front the first events are the same
behind_front : (front : List EventBody) (a b : EventBody) (x y : List EventBody)
    → front ++ a ∷ x ≡ front ++ b ∷ y → a ≡ b
behind_front [] a b x y e = firsts a b x y e
behind_front (f ∷ front) a b x y e = behind_front front a b x y (tails f f (front ++ a ∷ x) (front ++ b ∷ y) e)

-- inputs that part don't have the same content
pub not_same : (a_from b_from : yaml_encoding_t) (a b : List ℕ) (d : yaml_difference_t)
    → IsParting a_from a b_from b d → SameContent a_from a b_from b → ⊥
not_same a_from b_from a b d h s =
    let first = map-append (λ (t : Told). say t) h.before (h.next ∷ h.behind) in
    let second = map-append (λ (t : Told). say t) h.other_before (h.other_next ∷ h.other_behind) in
    let e = sym first ∙ ap contents (events_are a_from a (h.before ++ h.next ∷ h.behind) h.of_first) ∙ content_same a_from b_from a b s
    ∙ sym (ap contents (events_are b_from b (h.other_before ++ h.other_next ∷ h.other_behind) h.of_second)) ∙ second
    ∙ ap (λ (x : List EventBody). x ++ say h.other_next ∷ contents h.other_behind) (sym h.alike) in
    h.differ (behind_front (contents h.before) (say h.next) (say h.other_next) (contents h.behind) (contents h.other_behind) e)

-- the place is put beside the documents
pub with_place : (a_from : yaml_encoding_t) (a : List ℕ) (b_from : yaml_encoding_t) (b : List ℕ)
    (d : yaml_differences_t) (c : yaml_difference_t) → AreDifferences a_from a b_from b true (Ok d)
    → ArePlaces a_from a b_from b c (Ok (record { first = d.first; second = d.second; pairs = d.pairs; told = d.told; content = Some c }))
with_place a_from a b_from b d c h = (
  record {
    first = h.0.first;
    second = h.0.second;
    differ = h.0.differ;
    equal = h.0.equal;
  },
  refl,
)

pub none_parted : (a_from : yaml_encoding_t) (a : List ℕ) (b_from : yaml_encoding_t) (b : List ℕ)
    (d : yaml_differences_t) → SameContent a_from a b_from b → TellsNothing d → d.content ≡ None
    → AreDifferences a_from a b_from b false (Ok d)
none_parted a_from a b_from b d s n e = subst (λ (c : Option yaml_difference_t). AreContentDifferences a_from a b_from b c d) (sym e) (s, n)

pub all_parted : (a_from : yaml_encoding_t) (a : List ℕ) (b_from : yaml_encoding_t) (b : List ℕ)
    (c : yaml_difference_t) (r : Result yaml_differences_t (yaml_side_t × yaml_fault_t))
    → IsParting a_from a b_from b c → ArePlaces a_from a b_from b c r
    → AreDifferences a_from a b_from b false r
all_parted a_from a b_from b c (Ok d) p h = subst (λ (x : Option yaml_difference_t). AreContentDifferences a_from a b_from b x d) (sym h.1) (p, h.0)
all_parted a_from a b_from b c (Err f) p h = inr (c, p, h)

-- ---- nothing is listed

by_content : (a_from : yaml_encoding_t) (a : List ℕ) (b_from : yaml_encoding_t) (b : List ℕ)
    (c : Option yaml_difference_t) (d : yaml_differences_t)
    → AreContentDifferences a_from a b_from b c d
    → ((d.told.items ≡ []) × (c ≡ None)) ↔ SameContent a_from a b_from b
by_content a_from a b_from b None d h = (λ e. h.0, λ s. (h.1.told, refl))
by_content a_from a b_from b (Some c) d h = (λ e. absurd (let no = e.1 in cc), λ s. absurd (not_same a_from b_from a b c h.0 s))

equal_streams : (ds es ds' es' : List Document) → ds ≡ ds' → es ≡ es' → AreEqualStreams ds es
    → AreEqualStreams ds' es'
equal_streams ds es ds' es' p q h = subst (λ z. AreEqualStreams z es') p (subst (λ z. AreEqualStreams ds z) q h)

pub none_told : (a_from : yaml_encoding_t) (a : List ℕ) (b_from : yaml_encoding_t) (b : List ℕ)
    (documents : Bool) (d : yaml_differences_t)
    → AreDifferences a_from a b_from b documents (Ok d)
    → ((d.told.items ≡ []) × (d.content ≡ None)) ↔ AreAlike a_from a b_from b documents
none_told a_from a b_from b true d (h, c) = (
  λ e. record { first = d.first.items; second = d.second.items; first_loads = h.first; second_loads = h.second; equal = h.equal.0 e.0 },
  λ k. (h.equal.1 (equal_streams k.first k.second d.first.items d.second.items (k.first_loads.same ∙ sym h.first.same) (k.second_loads.same ∙ sym h.second.same) k.equal), c),
)
none_told a_from a b_from b false d h = by_content a_from a b_from b d.content d h
