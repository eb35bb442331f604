-- Where two readings part, their inputs do, at a place.
use Rattle.std.proofs.Common.{◌≡◌, ◌∙◌, sym, ap, refl, ℕ, List, [], ◌∷◌, ◌++◌, None, Bool, true, false, Result, Ok, Err}
use Rattle.std.proofs.lemmas.List.{map-append}
use Rattle.yaml_parse.specs.declared.yaml_encoding_t.{yaml_encoding_t}
use Rattle.yaml_parse.specs.declared.yaml_fault_t.{yaml_fault_t}
use Rattle.yaml_round_reading.specs.declared.side.yaml_side_t.{yaml_side_t}
use Rattle.yaml_parse.specs.Events.{EventBody}
use Rattle.yaml_parse.specs.Events as event
use Rattle.yaml_parse.specs.Resolve.{Told}
use Rattle.yaml_parse.specs.Remaining.{ParserRemaining}
use Rattle.yaml_scan_model.specs.declared.name.yaml_encoding_t.TheVariants.{YAML_ANY_ENCODING}
use Rattle.yaml_round_content.specs.Input.{ReadsInput, events_of, ending_of}
use Rattle.yaml_round_content.specs.Said.{Document, stream_says, documents_say}
use Rattle.yaml_round_content.proofs.ContentInputs.{have_content}
use Rattle.yaml_round_reading.specs.Reading.{contents}
use Rattle.yaml_round_reading.proofs.Plain.{has_events}
use Rattle.yaml_round_engine.specs.declared.difference.yaml_difference_t.{yaml_difference_t}
use Rattle.yaml_round_engine.specs.declared.trail.Trail.{Trail}
use Rattle.yaml_round_engine.specs.Places.{Path, path_of}
use Rattle.yaml_round_engine.specs.Walking.{past, start, IsFreshTrail}
use Rattle.yaml_round_engine.specs.Compare.{AreApart, Parted, WhereDifferent, ComparesReadings}
use Rattle.yaml_round_engine.specs.Differences.{saying, IsParting}
use Rattle.yaml_round_engine.proofs.Pathing.{position_walked}
use Rattle.yaml_round_engine.proofs.Placing.{placed}
use Rattle.yaml_round_engine.proofs.Fronts.{whole_stream}
use Rattle.yaml_round_engine.proofs.Inputs.{InFront}

-- ---- lists

-- what fronts and what is left say
said_apart : (c : List Document) (events before left : List Told) → contents events ≡ stream_says c
    → events ≡ before ++ left → contents before ++ contents left ≡ stream_says c
said_apart c events before left s e = sym (map-append (λ (t : Told). saying t.0.body) before left) ∙ sym (ap contents e) ∙ s

not_nothing : (b : EventBody) (bs : List EventBody) → b ∷ bs ≡ [] → ⊥
not_nothing b bs e = absurd (cc)

pub first_same : (a b : EventBody) (x y : List EventBody) → a ∷ x ≡ b ∷ y → a ≡ b
first_same a b x y e = cc

nothing_behind : (xs : List EventBody) → xs ++ [] ≡ xs
nothing_behind [] = refl
nothing_behind (x ∷ xs) = ap (λ (ys : List EventBody). x ∷ ys) (nothing_behind xs)

-- neither ends before the other
longer : (c d : List Document) (before other_before : List EventBody) (b : EventBody)
    (bs : List EventBody) → before ++ [] ≡ stream_says c → other_before ++ b ∷ bs ≡ stream_says d
    → before ≡ other_before → ⊥
longer c d before other_before b bs e f same =
    let whole : before ≡ stream_says c = sym (nothing_behind before) ∙ e in
    not_nothing b bs (whole_stream c d (b ∷ bs) (ap (λ (x : List EventBody). x ++ b ∷ bs) (sym whole ∙ same) ∙ f))

-- both begin with the stream's start
begun_alike : (c d : List Document) (a b : EventBody) (x y : List EventBody) → a ∷ x ≡ stream_says c
    → b ∷ y ≡ stream_says d → a ≡ b
begun_alike c d a b x y e f =
    first_same a (event.stream_start YAML_ANY_ENCODING) x (documents_say c) e ∙ sym (first_same b (event.stream_start YAML_ANY_ENCODING) y (documents_say d) f)

-- ---- the place

in_front : (c d : List Document) (before other_before : List Told) (e f : EventBody)
    (es fs : List EventBody)
    → contents before ++ e ∷ es ≡ stream_says c → contents other_before ++ f ∷ fs ≡ stream_says d
    → contents before ≡ contents other_before → (e ≡ f → ⊥) → InFront (contents before)
in_front c d [] other_before e f es fs p q alike differ =
    absurd (differ (begun_alike c d e f es fs p (ap (λ (x : List EventBody). x ++ f ∷ fs) alike ∙ q)))
in_front c d (t ∷ ts) other_before e f es fs p q alike differ = placed c (saying t.0.body) (contents ts) e es (sym p)

-- ---- from readings to inputs

parted_at : (a_from : yaml_encoding_t) (a : List ℕ) (b_from : yaml_encoding_t) (b : List ℕ)
    (place : yaml_difference_t) (before other_before left other_left : List Told)
    → ending_of a_from a ≡ None → ending_of b_from b ≡ None → events_of a_from a ≡ before ++ left
    → events_of b_from b ≡ other_before ++ other_left
    → contents before ≡ contents other_before → AreApart left other_left place
    → path_of place ≡ past (contents before) start
    → IsParting a_from a b_from b place
parted_at a_from a b_from b place before other_before [] [] p q e f alike apart path = absurd apart
parted_at a_from a b_from b place before other_before [] (y ∷ ys) p q e f alike apart path =
    let h = have_content a_from a p in
    let k = have_content b_from b q in
    absurd (longer h.0 k.0 (contents before) (contents other_before) (saying y.0.body) (contents ys)
    (said_apart h.0 (events_of a_from a) before [] h.1.says e) (said_apart k.0 (events_of b_from b) other_before (y ∷ ys) k.1.says f) alike)
parted_at a_from a b_from b place before other_before (x ∷ xs) [] p q e f alike apart path =
    let h = have_content a_from a p in
    let k = have_content b_from b q in
    absurd (longer k.0 h.0 (contents other_before) (contents before) (saying x.0.body) (contents xs)
    (said_apart k.0 (events_of b_from b) other_before [] k.1.says f) (said_apart h.0 (events_of a_from a) before (x ∷ xs) h.1.says e) (sym alike))
parted_at a_from a b_from b place before other_before (x ∷ xs) (y ∷ ys) p q e f alike apart path =
    let h = have_content a_from a p in
    let k = have_content b_from b q in
    let there = in_front h.0 k.0 before other_before (saying x.0.body) (saying y.0.body) (contents xs) (contents ys)
    (said_apart h.0 (events_of a_from a) before (x ∷ xs) h.1.says e) (said_apart k.0 (events_of b_from b) other_before (y ∷ ys) k.1.says f) alike apart.0 in
    record {
      before = before;
      other_before = other_before;
      next = x;
      other_next = y;
      behind = xs;
      other_behind = ys;
      of_first = has_events a_from a (before ++ x ∷ xs) p (sym e);
      of_second = has_events b_from b (other_before ++ y ∷ ys) q (sym f);
      alike = alike;
      differ = apart.0;
      tells = apart.1.tells;
      cause = apart.1.cause;
      place = there.0;
      in_front = there.1;
      path = path ∙ ap (λ (es : List EventBody). past es start) there.1 ∙ position_walked there.0;
    }

pub parting_told : (kept : Bool) (a_from : yaml_encoding_t) (a : List ℕ) (b_from : yaml_encoding_t)
    (b : List ℕ) (p q : ParserRemaining) (old new : Trail) → ReadsInput a_from a p → ReadsInput b_from b q
    → p.ending ≡ None → q.ending ≡ None → IsFreshTrail kept old → Parted kept p.events q.events old new
    → IsParting a_from a b_from b new.place
parting_told kept a_from a b_from b p q old new h k first_ending second_ending fresh d =
    parted_at a_from a b_from b new.place d.before d.other_before d.left d.other_left
    (sym h.ending ∙ first_ending) (sym k.ending ∙ second_ending) (sym h.events ∙ d.first_events) (sym k.events ∙ d.second_events)
    d.alike d.apart (d.path fresh.kept ∙ ap (λ (w : Path). past (contents d.before) w) fresh.path)

pub told_where : (kept : Bool) (a_from : yaml_encoding_t) (a : List ℕ) (b_from : yaml_encoding_t)
    (b : List ℕ) (p q : ParserRemaining) (old new : Trail)
    (result : Result Bool (yaml_side_t × yaml_fault_t))
    → ReadsInput a_from a p → ReadsInput b_from b q → ComparesReadings p q result
    → WhereDifferent result (Parted kept p.events q.events old new) → IsFreshTrail kept old
    → WhereDifferent result (IsParting a_from a b_from b new.place)
told_where kept a_from a b_from b p q old new (Ok false) h k e d fresh = parting_told kept a_from a b_from b p q old new h k e.first_ending e.second_ending fresh d
told_where kept a_from a b_from b p q old new (Ok true) h k e d fresh = tt
told_where kept a_from a b_from b p q old new (Err f) h k e d fresh = tt
