-- Keys whose texts differ are never reported.
use Rattle.std.proofs.Common.{◌≡◌, ℕ, zero, suc, ◌+◌, ◌<◌, ◌≤◌, ℤ, Bool, true, false, true≢false, List, [], ◌∷◌, ◌++◌, length, map, get_or, take, drop, None, Ok, refl, sym, subst, ◌∙◌, ap, inl, inr, arith, add-one}
use Rattle.std.specs.List.{IsDistinct}
use Rattle.std.specs.List.Sorted.{IsPermutation, IsStrictlyIncreasing}
use Rattle.std.specs.Ordering.{eq_by_cmp, nat_cmp}
use Rattle.std.specs.Cmp.{eq_by_cmp_equiv, nat_cmp_total}
use Rattle.std.specs.Prelude.{All}
use Rattle.std.proofs.lemmas.List.Elements.{All-head, All-tail, All-from_recursion}
use Rattle.std.proofs.lemmas.List.{get_or_default, map-append}
use Rattle.std.proofs.lemmas.List.Sorted.{IsPermutation-sym}
use Rattle.std.proofs.lemmas.Map.Keys.{IsDistinct-head, IsDistinct-tail, IsDistinct-from_sorted, IsDistinct-IsPermutation, sorted_from_strictly_increasing}
use Rattle.yaml_parse_model.specs.declared.yaml_node_pair_t.{yaml_node_pair_t}
use Rattle.yaml_parse_model.specs.Nodes.{Node}
use Rattle.yaml_round_documents.specs.Same.{AgreeWithin, AreSame}
use Rattle.yaml_round_documents.specs.Texts.{IfApart, NoneIsTold, key_number, key_text}
use Rattle.yaml_round_documents.specs.Ranks.{number_from, number_with}
use Rattle.yaml_round_documents.specs.Telling.{AreToldBehind, IsFirstSame, pair_keys}
use Rattle.yaml_round_documents.proofs.Meeting.{keys_taken, keys_all}

-- keys that are the same have one text
agree_text : (nodes : List Node) (n : ℕ) (a b : ℤ) → AgreeWithin n nodes nodes a b
    → key_text nodes a ≡ key_text nodes b
unfolding AgreeWithin
agree_text nodes zero a b h = absurd h
agree_text nodes (suc n) a b h = h.0.text

same_text : (nodes : List Node) (a b : ℤ) → AreSame nodes a b → key_text nodes a ≡ key_text nodes b
same_text nodes a b s = elim s [ inl e ↦ ap (key_text nodes) e | inr k ↦ agree_text nodes k.0 a b k.1 ]

-- ---- numbers of texts

text_left : (text : List ℕ) (i d n : ℕ) → i < length text
    → number_from n (drop i text) ≡ number_from (number_with n (get_or text i d)) (drop (suc i) text)
text_left [] i d n w = absurd (omega arith)
text_left (b ∷ text) zero d n w = refl
text_left (b ∷ text) (suc i) d n w = text_left text i d n (omega arith)

pub number_next : (text : List ℕ) (i d n m : ℕ) → number_from 0 text ≡ number_from n (drop i text)
    → i < length text → m ≡ number_with n (get_or text i d)
    → number_from 0 text ≡ number_from m (drop (i + 1) text)
number_next text i d n m h w e =
    rw add-one (h ∙ text_left text i d n w ∙ ap (λ z. number_from z (drop (suc i) text)) (sym e))

text_done : (text : List ℕ) (i n : ℕ) → length text ≤ i → number_from n (drop i text) ≡ n
text_done [] zero n w = refl
text_done [] (suc i) n w = refl
text_done (b ∷ text) zero n w = absurd (omega arith)
text_done (b ∷ text) (suc i) n w = text_done text i n (omega arith)

pub number_all : (text : List ℕ) (i n : ℕ) → number_from 0 text ≡ number_from n (drop i text)
    → length text ≤ i → n ≡ number_from 0 text
number_all text i n h w = sym (h ∙ text_done text i n w)

pub numbers_next : (nodes : List Node) (ps : List yaml_node_pair_t) (i : ℕ) (d : yaml_node_pair_t)
    (now : List ℕ) (n : ℕ) (key : ℤ) → now ≡ map (key_number nodes) (pair_keys (take i ps))
    → i < length ps → n ≡ key_number nodes key → key ≡ (get_or ps i d).key
    → now ++ n ∷ [] ≡ map (key_number nodes) (pair_keys (take (i + 1) ps))
numbers_next nodes ps i d now n key h w e k =
    rw add-one (ap (λ z. z ++ n ∷ []) h
    ∙ ap (λ z. map (key_number nodes) (pair_keys (take i ps)) ++ z ∷ []) (e ∙ ap (key_number nodes) k)
    ∙ sym (map-append (key_number nodes) (pair_keys (take i ps)) ((get_or ps i d).key ∷ []))
    ∙ ap (map (key_number nodes)) (sym (keys_taken ps i (get_or ps i d) w (get_or_default ps i d (get_or ps i d) w))))

pub numbers_all : (nodes : List Node) (ps : List yaml_node_pair_t) (i : ℕ) (now : List ℕ)
    → now ≡ map (key_number nodes) (pair_keys (take i ps)) → length ps ≤ i
    → now ≡ map (key_number nodes) (pair_keys ps)
numbers_all nodes ps i now h w = h ∙ ap (map (key_number nodes)) (keys_all ps i w).1

-- ---- keys whose numbers differ

abbrev differ : ℕ → ℕ → Bool
differ n m = eq_by_cmp nat_cmp n m

same_number : (n : ℕ) → differ n n ≡ true
same_number n = (eq_by_cmp_equiv nat_cmp_total).refl n

-- a number is none of these
abbrev IsNone : ℕ → List ℕ → Type 0
IsNone n ns = All (λ m. differ n m ≡ false) ns

-- the numbers of the first keys are none of these
abbrev InFront : (ℤ → ℕ) → List ℤ → List ℕ → Type 0
InFront f [] ns = Unit {0}
InFront f (b ∷ bs) ns = IsNone (f b) ns × InFront f bs ns

front_none : (nodes : List Node) (before keys : List ℤ) (key : ℤ)
    → InFront (key_number nodes) before (key_number nodes key ∷ map (key_number nodes) keys)
    → IsFirstSame nodes key before None
front_none nodes [] keys key h = refl
front_none nodes (f ∷ before) keys key h =
    let n = key_number nodes f in
    let other : differ n (key_number nodes key) ≡ false = All-head (λ m. differ n m ≡ false) (key_number nodes key) (map (key_number nodes) keys) h.0 in (
    inr (
      λ s. absurd (true≢false (sym (same_number n) ∙ ap (λ t. differ n (number_from 0 t)) (same_text nodes f key s) ∙ other)),
      front_none nodes before keys key h.1,
    )
    )

front_left : (f : ℤ → ℕ) (before : List ℤ) (n : ℕ) (ns : List ℕ) → InFront f before (n ∷ ns)
    → InFront f before ns
front_left f [] n ns h = tt
front_left f (b ∷ before) n ns h = (All-tail (λ m. differ (f b) m ≡ false) n ns h.0, front_left f before n ns h.1)

front_more : (f : ℤ → ℕ) (before : List ℤ) (key : ℤ) (ns : List ℕ) → InFront f before ns
    → IsNone (f key) ns → InFront f (before ++ key ∷ []) ns
front_more f [] key ns h k = (k, tt)
front_more f (b ∷ before) key ns h k = (h.0, front_more f before key ns h.1 k)

none_behind : (nodes : List Node) (before keys : List ℤ)
    → InFront (key_number nodes) before (map (key_number nodes) keys)
    → IsDistinct (λ n m. differ n m) (map (key_number nodes) keys)
    → AreToldBehind nodes before keys []
none_behind nodes before [] h d = refl
none_behind nodes before (key ∷ keys) h d =
    let f = key_number nodes in
    let ns = map f keys in (
      None,
      [],
      refl,
      front_none nodes before keys key h,
      none_behind nodes (before ++ key ∷ []) keys
          (front_more f before key ns (front_left f before (f key) ns h) (All-from_recursion (λ m. differ (f key) m ≡ false) ns (IsDistinct-head (λ n m. differ n m) (f key) ns d)))
          (IsDistinct-tail (λ n m. differ n m) (f key) ns d),
    )

-- numbers that rise in some order differ
none_same : (nodes : List Node) (keys : List ℤ) (room sorted : List ℕ)
    → room ≡ map (key_number nodes) keys → IsPermutation room sorted → IsStrictlyIncreasing sorted
    → NoneIsTold nodes keys
none_same nodes keys room sorted e p r =
    let d = IsDistinct-from_sorted nat_cmp sorted (sorted_from_strictly_increasing sorted r) in
    let own = IsDistinct-IsPermutation (λ n m. differ n m) flips sorted room (IsPermutation-sym room sorted p) d in
    none_behind nodes [] keys tt (subst (IsDistinct (λ n m. differ n m)) e own)
  where
    flips : (n m : ℕ) → differ n m ≡ differ m n
    flips n m = (eq_by_cmp_equiv nat_cmp_total).symm n m

pub apart_answer : (nodes : List Node) (keys : List ℤ) (room sorted slice : List ℕ) (b : Bool)
    → room ≡ map (key_number nodes) keys → IsPermutation room sorted → slice ≡ sorted
    → (b ≡ true → IsStrictlyIncreasing slice) → IfApart (NoneIsTold nodes keys) (Ok b)
apart_answer nodes keys room sorted slice true e p s r = none_same nodes keys room sorted e p (subst IsStrictlyIncreasing s (r refl))
apart_answer nodes keys room sorted slice false e p s r = tt
