-- Two inputs first differ at one place.
use Rattle.std.proofs.Common.{◌≡◌, ◌∙◌, sym, ap, refl, ℕ, List, [], ◌∷◌, ◌++◌, Bool, true, false, IsTrue}
use Rattle.std.proofs.lemmas.List.{map-append}
use Rattle.yaml_round.specs.declared.yaml_encoding_t.{yaml_encoding_t}
use Rattle.yaml_round.specs.declared.yaml_difference_t.{yaml_difference_t}
use Rattle.yaml_parse_grammar.specs.Resolve.{Told}
use Rattle.yaml_round.specs.parse_model.Events.{EventBody, type_of}
use Rattle.yaml_round.specs.round_reading.Reading.{contents}
use Rattle.yaml_round_engine.specs.Answers.{SameContent}
use Rattle.yaml_round_engine.specs.Places.{StreamPosition, position_says, path_to}
use Rattle.yaml_round_engine.specs.Walking.{past, start}
use Rattle.yaml_round_engine.specs.Causes.{cause_of}
use Rattle.yaml_round_engine.specs.Differences.{saying, IsParting}
use Rattle.yaml_round_engine.proofs.Pathing.{position_walked}
use Rattle.yaml_round.proofs.Plain.{content_same, events_are}
use Rattle.yaml_round_laws.specs.Partings.{TellTheSame, DiffsAgree, turned, turned_cause}
use Rattle.yaml_round_laws.proofs.Comparing as comparing
use Rattle.yaml_round_laws.proofs.Turning.{cause_turned}

-- ---- lists

abbrev say : Told → EventBody
say t = saying t.0.body

tails : {A : Type 0} (a b : A) (x y : List A) → a ∷ x ≡ b ∷ y → x ≡ y
tails a b x y e = cc

firsts : {A : Type 0} (a b : A) (x y : List A) → a ∷ x ≡ b ∷ y → a ≡ b
firsts a b x y e = cc

nothing_said : (a : EventBody) (x : List EventBody) → [] ≡ a ∷ x → ⊥
nothing_said a x e = absurd (cc)

-- after one front the first events are the same
behind_front : (front : List EventBody) (a b : EventBody) (x y : List EventBody)
    → front ++ a ∷ x ≡ front ++ b ∷ y → a ≡ b
behind_front [] a b x y e = firsts a b x y e
behind_front (f ∷ front) a b x y e = behind_front front a b x y (tails f f (front ++ a ∷ x) (front ++ b ∷ y) e)

-- where other events are in the same places, they have the same content
said_alike : (x y u v : Told) → x ≡ u → y ≡ v → say u ≡ say v → say x ≡ say y
said_alike x y u v p q e = ap (λ (t : Told). say t) p ∙ e ∙ sym (ap (λ (t : Told). say t) q)

-- Two lists first differ at one place.
one_position : (before other before' other' : List Told) (x y x' y' : Told)
    (xs ys xs' ys' : List Told)
    → before ++ x ∷ xs ≡ before' ++ x' ∷ xs' → other ++ y ∷ ys ≡ other' ++ y' ∷ ys'
    → contents before ≡ contents other → contents before' ≡ contents other'
    → (say x ≡ say y → ⊥) → (say x' ≡ say y' → ⊥)
    → (contents before ≡ contents before') × (x ≡ x') × (y ≡ y')
one_position [] (o ∷ os) before' other' x y x' y' xs ys xs' ys' p q a a' d d' = absurd (nothing_said (say o) (contents os) a)
one_position (b ∷ bs) [] before' other' x y x' y' xs ys xs' ys' p q a a' d d' = absurd (nothing_said (say b) (contents bs) (sym a))
one_position [] [] [] (o ∷ os) x y x' y' xs ys xs' ys' p q a a' d d' = absurd (nothing_said (say o) (contents os) a')
one_position [] [] (b ∷ bs) [] x y x' y' xs ys xs' ys' p q a a' d d' = absurd (nothing_said (say b) (contents bs) (sym a'))
one_position [] [] [] [] x y x' y' xs ys xs' ys' p q a a' d d' = (refl, firsts x x' xs xs' p, firsts y y' ys ys' q)
one_position [] [] (b ∷ bs) (o ∷ os) x y x' y' xs ys xs' ys' p q a a' d d' =
    absurd (d (said_alike x y b o (firsts x b xs (bs ++ x' ∷ xs') p) (firsts y o ys (os ++ y' ∷ ys') q) (firsts (say b) (say o) (contents bs) (contents os) a')))
one_position (b ∷ bs) (o ∷ os) [] (n ∷ ns) x y x' y' xs ys xs' ys' p q a a' d d' = absurd (nothing_said (say n) (contents ns) a')
one_position (b ∷ bs) (o ∷ os) (n ∷ ns) [] x y x' y' xs ys xs' ys' p q a a' d d' = absurd (nothing_said (say n) (contents ns) (sym a'))
one_position (b ∷ bs) (o ∷ os) [] [] x y x' y' xs ys xs' ys' p q a a' d d' =
    absurd (d' (said_alike x' y' b o (sym (firsts b x' (bs ++ x ∷ xs) xs' p)) (sym (firsts o y' (os ++ y ∷ ys) ys' q)) (firsts (say b) (say o) (contents bs) (contents os) a)))
one_position (b ∷ bs) (o ∷ os) (n ∷ ns) (m ∷ ms) x y x' y' xs ys xs' ys' p q a a' d d' =
    let r = one_position bs os ns ms x y x' y' xs ys xs' ys'
    (tails b n (bs ++ x ∷ xs) (ns ++ x' ∷ xs') p) (tails o m (os ++ y ∷ ys) (ms ++ y' ∷ ys') q)
    (tails (say b) (say o) (contents bs) (contents os) a) (tails (say n) (say m) (contents ns) (contents ms) a') d d' in
    (cc, r.1, r.2)

-- ---- inputs

not_same : (a_from b_from : yaml_encoding_t) (a b : List ℕ) (d : yaml_difference_t)
    → IsParting a_from a b_from b d → SameContent a_from a b_from b → ⊥
not_same a_from b_from a b d h s =
    let first = map-append (λ (t : Told). say t) h.before (h.next ∷ h.behind) in
    let second = map-append (λ (t : Told). say t) h.other_before (h.other_next ∷ h.other_behind) in
    let e = sym first ∙ ap contents (events_are a_from a (h.before ++ h.next ∷ h.behind) h.of_first) ∙ content_same a_from b_from a b s
    ∙ sym (ap contents (events_are b_from b (h.other_before ++ h.other_next ∷ h.other_behind) h.of_second)) ∙ second
    ∙ ap (λ (x : List EventBody). x ++ say h.other_next ∷ contents h.other_behind) (sym h.alike) in
    h.differ (behind_front (contents h.before) (say h.next) (say h.other_next) (contents h.behind) (contents h.other_behind) e)

told_false : (same : Bool) → (IsTrue same → ⊥) → same ≡ false
told_false true n = absurd (n refl)
told_false false n = refl

-- the place has one path
pub one_path : (p q : StreamPosition) → position_says p [] ≡ position_says q []
    → path_to p ≡ path_to q
one_path p q e = sym (position_walked p) ∙ ap (λ (es : List EventBody). past es start) e ∙ position_walked q

once : (a_from b_from : yaml_encoding_t) (a b : List ℕ) (d e : yaml_difference_t)
    → IsParting a_from a b_from b d → IsParting a_from a b_from b e → TellTheSame d e
once a_from b_from a b d e h k =
    let r = one_position h.before h.other_before k.before k.other_before h.next h.other_next k.next k.other_next h.behind h.other_behind k.behind k.other_behind
    (events_are a_from a (h.before ++ h.next ∷ h.behind) h.of_first ∙ sym (events_are a_from a (k.before ++ k.next ∷ k.behind) k.of_first))
    (events_are b_from b (h.other_before ++ h.other_next ∷ h.other_behind) h.of_second ∙ sym (events_are b_from b (k.other_before ++ k.other_next ∷ k.other_behind) k.of_second))
    h.alike k.alike h.differ k.differ in
    record {
      path = h.path ∙ one_path h.place k.place (sym h.in_front ∙ r.0 ∙ k.in_front) ∙ sym k.path;
      first_mark = h.tells.first_mark ∙ ap (λ (t : Told). t.0.start_mark) r.1 ∙ sym k.tells.first_mark;
      first_end = h.tells.first_end ∙ ap (λ (t : Told). t.0.end_mark) r.1 ∙ sym k.tells.first_end;
      first_type = h.tells.first_type ∙ ap (λ (t : Told). type_of t.0.body) r.1 ∙ sym k.tells.first_type;
      second_mark = h.tells.second_mark ∙ ap (λ (t : Told). t.0.start_mark) r.2 ∙ sym k.tells.second_mark;
      second_end = h.tells.second_end ∙ ap (λ (t : Told). t.0.end_mark) r.2 ∙ sym k.tells.second_end;
      second_type = h.tells.second_type ∙ ap (λ (t : Told). type_of t.0.body) r.2 ∙ sym k.tells.second_type;
      cause = h.cause ∙ ap (λ (t : Told). cause_of (say t) (say h.other_next)) r.1 ∙ ap (λ (t : Told). cause_of (say k.next) (say t)) r.2 ∙ sym k.cause;
    }

other_way : (a_from b_from : yaml_encoding_t) (a b : List ℕ) (d : yaml_difference_t)
    → IsParting b_from b a_from a d → IsParting a_from a b_from b (turned d)
other_way a_from b_from a b d h = record {
  before = h.other_before;
  other_before = h.before;
  next = h.other_next;
  other_next = h.next;
  behind = h.other_behind;
  other_behind = h.behind;
  of_first = h.of_second;
  of_second = h.of_first;
  alike = sym h.alike;
  differ = λ e. h.differ (sym e);
  cause = ap turned_cause h.cause ∙ sym (cause_turned (say h.next) (say h.other_next));
  tells = record {
    first_mark = h.tells.second_mark;
    first_end = h.tells.second_end;
    first_type = h.tells.second_type;
    second_mark = h.tells.first_mark;
    second_end = h.tells.first_end;
    second_type = h.tells.first_type;
  };
  place = h.place;
  in_front = sym h.alike ∙ h.in_front;
  path = h.path;
}

pub agree : DiffsAgree
agree = record {
  either = λ a_from b_from a b s. comparing.turned a_from b_from a b s;
  nothing = λ a_from b_from a b same c s. (c.told.1 s);
  something = λ a_from b_from a b same d c h. told_false same (λ t. not_same a_from b_from a b d h (c.told.0 t));
  again = λ a_from b_from a b d e h k. once a_from b_from a b d e h k;
  turned = λ a_from b_from a b d e h k. once a_from b_from a b d (turned e) h (other_way a_from b_from a b e k);
}
