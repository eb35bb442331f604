-- The documents of two inputs first differ at one place.
use Rattle.std.proofs.lemmas.Bool.Decides.{nat_tests}
use Rattle.std.proofs.Common.{◌≡◌, ◌∙◌, sym, ap, refl, subst, ℕ, List, [], ◌∷◌, ◌++◌, length, arith}
use Rattle.yaml_round.specs.declared.yaml_encoding_t.{yaml_encoding_t}
use Rattle.yaml_round.specs.declared.yaml_difference_t.{yaml_difference_t}
use Rattle.yaml_round.specs.parse_model.Events.{EventBody, type_of}
use Rattle.yaml_round.specs.parse_model.Documents.{Document}
use Rattle.yaml_round_content.specs.Agree.{Agrees}
use Rattle.yaml_round_content.specs.Input.{events_of}
use Rattle.yaml_round_engine.specs.Causes.{next_cause}
use Rattle.yaml_round_engine.specs.Loaded.{dumps_say, next_of, event_at, SameDocuments, IsDocumentsParting}
use Rattle.yaml_round_laws.specs.Partings.{TellTheSame, DocumentDiffsAgree, turned}
use Rattle.yaml_round_laws.proofs.Turning.{next_turned}
use Rattle.yaml_round_laws.proofs.Limits.{same_loading}
use Rattle.yaml_round_laws.proofs.Partings.{one_path}
use Rattle.yaml_round_content.proofs.Injective.{rest_same}

-- ---- lists

-- Two lists that go on apart after a front do so after no other.
one_front : (b b' l o l' o' : List EventBody) → b ++ l ≡ b' ++ l' → b ++ o ≡ b' ++ o'
    → (next_of l ≡ next_of o → ⊥) → (next_of l' ≡ next_of o' → ⊥) → b ≡ b'
one_front [] [] l o l' o' p q d d' = refl
one_front [] (x ∷ xs) l o l' o' p q d d' = absurd (d (ap next_of p ∙ sym (ap next_of q)))
one_front (x ∷ xs) [] l o l' o' p q d d' = absurd (d' (sym (ap next_of p) ∙ ap next_of q))
one_front (x ∷ xs) (y ∷ ys) l o l' o' p q d d' = grind (arith, nat_tests, rest_same, one_front xs ys l o l' o' (rest_same x y (xs ++ l) (ys ++ l') p) (rest_same x y (xs ++ o) (ys ++ o') q) d d')

-- ---- inputs

same_front : (a_from b_from : yaml_encoding_t) (a b : List ℕ) (d e : yaml_difference_t)
    → (h : IsDocumentsParting a_from a b_from b d) → (k : IsDocumentsParting a_from a b_from b e)
    → h.before ≡ k.before
same_front a_from b_from a b d e h k =
    one_front h.before k.before h.left h.other_left k.left k.other_left
    (sym h.first_says ∙ sym (ap dumps_say (same_loading a_from a h.first k.first h.first_loads k.first_loads)) ∙ k.first_says)
    (sym h.second_says ∙ sym (ap dumps_say (same_loading b_from b h.second k.second h.second_loads k.second_loads)) ∙ k.second_says)
    h.differ k.differ

behind_same : (xs ys zs : List EventBody) → xs ++ ys ≡ xs ++ zs → ys ≡ zs
behind_same [] ys zs e = e
behind_same (x ∷ xs) ys zs e = behind_same xs ys zs (rest_same x x (xs ++ ys) (xs ++ zs) e)

-- and what goes on is the same
same_lefts : (a_from b_from : yaml_encoding_t) (a b : List ℕ) (d e : yaml_difference_t)
    → (h : IsDocumentsParting a_from a b_from b d) → (k : IsDocumentsParting a_from a b_from b e)
    → (h.left ≡ k.left) × (h.other_left ≡ k.other_left)
same_lefts a_from b_from a b d e h k =
    let f = same_front a_from b_from a b d e h k in (
      behind_same h.before h.left k.left
          (sym h.first_says ∙ sym (ap dumps_say (same_loading a_from a h.first k.first h.first_loads k.first_loads)) ∙ k.first_says ∙ ap (λ (x : List EventBody). x ++ k.left) (sym f)),
      behind_same h.before h.other_left k.other_left
          (sym h.second_says ∙ sym (ap dumps_say (same_loading b_from b h.second k.second h.second_loads k.second_loads)) ∙ k.second_says ∙ ap (λ (x : List EventBody). x ++ k.other_left) (sym f)),
    )

once : (a_from b_from : yaml_encoding_t) (a b : List ℕ) (d e : yaml_difference_t)
    → IsDocumentsParting a_from a b_from b d → IsDocumentsParting a_from a b_from b e
    → TellTheSame d e
once a_from b_from a b d e h k =
    let f = same_front a_from b_from a b d e h k in
    let first = events_of a_from a in
    let second = events_of b_from b in
    let lefts = same_lefts a_from b_from a b d e h k in
    record {
      path = h.path ∙ one_path h.place k.place (sym h.in_front ∙ f ∙ k.in_front) ∙ sym k.path;
      first_mark = h.tells.first_mark ∙ ap (λ (es : List EventBody). (event_at first (length es)).start_mark) f ∙ sym k.tells.first_mark;
      first_end = h.tells.first_end ∙ ap (λ (es : List EventBody). (event_at first (length es)).end_mark) f ∙ sym k.tells.first_end;
      first_type = h.tells.first_type ∙ ap (λ (es : List EventBody). type_of (event_at first (length es)).body) f ∙ sym k.tells.first_type;
      second_mark = h.tells.second_mark ∙ ap (λ (es : List EventBody). (event_at second (length es)).start_mark) f ∙ sym k.tells.second_mark;
      second_end = h.tells.second_end ∙ ap (λ (es : List EventBody). (event_at second (length es)).end_mark) f ∙ sym k.tells.second_end;
      second_type = h.tells.second_type ∙ ap (λ (es : List EventBody). type_of (event_at second (length es)).body) f ∙ sym k.tells.second_type;
      cause = h.cause ∙ ap (λ (es : List EventBody). next_cause (next_of es) (next_of h.other_left)) lefts.0 ∙ ap (λ (es : List EventBody). next_cause (next_of k.left) (next_of es)) lefts.1 ∙ sym k.cause;
    }

other_way : (a_from b_from : yaml_encoding_t) (a b : List ℕ) (d : yaml_difference_t)
    → IsDocumentsParting b_from b a_from a d → IsDocumentsParting a_from a b_from b (turned d)
other_way a_from b_from a b d h = grind (arith, nat_tests, next_turned)

not_apart : (a_from b_from : yaml_encoding_t) (a b : List ℕ) (d : yaml_difference_t)
    → SameDocuments a_from a b_from b → IsDocumentsParting a_from a b_from b d → ⊥
not_apart a_from b_from a b d s h =
    let first : h.first ≡ s.first = same_loading a_from a s.first h.first s.first_loads h.first_loads in
    let second : h.second ≡ s.second = same_loading b_from b s.second h.second s.second_loads h.second_loads in
    h.apart (subst (λ (ds : List Document). Agrees ds h.second) (sym first) (subst (λ (es : List Document). Agrees s.first es) (sym second) s.agree))

pub agree : DocumentDiffsAgree
agree = record {
  either = λ a_from b_from a b s. (record { first = s.second; second = s.first; first_loads = s.second_loads; second_loads = s.first_loads; agree = sym s.agree });
  not_both = λ a_from b_from a b d s h. not_apart a_from b_from a b d s h;
  again = λ a_from b_from a b d e h k. once a_from b_from a b d e h k;
  turned = λ a_from b_from a b d e h k. once a_from b_from a b d (turned e) h (other_way a_from b_from a b e k);
}
