-- Classes of bytes, as bits.
use Rattle.std.proofs.Common.{◌≡◌, ℕ, ◌+◌, ◌<◌, ◌≤◌, Bool, true, false, List, length, get_or, bit_and, bit_or, refl, sym, ◌∙◌, ap, arith, inl, inr}
use Rattle.std.specs.Prelude.{not, ◌==◌}
use Rattle.std.specs.Int.Bits.{and_zero_l, and_zero_r}
use Rattle.std.proofs.lemmas.Nat.{and_assoc, and_comm, and_or_self, or_comm}
use Rattle.std.proofs.lemmas.Bool.{agree_below, agree_below_at, eqb-true, false≢true, cases_lt}
use Rattle.std.proofs.lemmas.Bool.Decides.{nat_tests}
use Rattle.yaml_emit_scalars.specs.Classes.{class_of, is_of, Covers, NoneOf}
use Rattle.yaml_emit_layout.proofs.Bools.{bool_cases}

-- where nothing of t is in c, nothing of a part of t is
pub none_within : (c t s : ℕ) → bit_and c t ≡ 0 → bit_and s t ≡ s → bit_and c s ≡ 0
none_within c t s n p =
    ap (bit_and c) (sym p ∙ and_comm s t) ∙ sym (and_assoc s c t) ∙ ap (λ z. bit_and z s) n ∙ and_zero_l s

-- a part of a stays a part of a and more
pub part_more : (c a d : ℕ) → bit_and c a ≡ c → bit_and c (bit_or a d) ≡ c
part_more c a d p =
    ap (λ z. bit_and z (bit_or a d)) (sym p) ∙ and_assoc (bit_or a d) c a ∙ ap (bit_and c) (and_comm a (bit_or a d) ∙ ap (λ z. bit_and z a) (or_comm a d) ∙ and_or_self a d) ∙ p

pub part_last : (a d : ℕ) → bit_and d (bit_or a d) ≡ d
part_last a d = and_comm d (bit_or a d) ∙ and_or_self d a

-- a part of what has none of some classes has none
pub none_covered : (c a classes : ℕ) → bit_and c a ≡ c → bit_and a classes ≡ 0
    → bit_and c classes ≡ 0
none_covered c a classes p n =
    ap (λ z. bit_and z classes) (sym p) ∙ and_assoc classes c a ∙ ap (bit_and c) n ∙ and_zero_r c

none_of : (c m : ℕ) → not (bit_and c m == 0) ≡ false → bit_and c m ≡ 0
none_of c m h = bool_cases (bit_and c m == 0) (λ t. eqb-true (bit_and c m) 0 t) (λ f. absurd (false≢true (sym h ∙ ap not f)))

of_none : (c m : ℕ) → bit_and c m ≡ 0 → not (bit_and c m == 0) ≡ false
of_none c m h = ap (λ z. not (z == 0)) h

-- a byte of none of some classes is of none of a part of them
pub is_of_part : (t s b : ℕ) → is_of t b ≡ false → bit_and s t ≡ s → is_of s b ≡ false
is_of_part t s b h p = of_none (class_of b) s (none_within (class_of b) t s (none_of (class_of b) t h) p)

-- a byte more is covered
pub covers_more : (all : ℕ) (text : List ℕ) (from to : ℕ) → Covers all text from to
    → Covers (bit_or all (class_of (get_or text to 0))) text from (to + 1)
covers_more all text from to h k l u =
    elim (cases_lt k to) [
      | inl less ↦ part_more _ all _ (h k l less)
      | inr more ↦ let e : k ≡ to = omega (arith, more, u) in ap (λ z. bit_and (class_of (get_or text z 0)) (bit_or all (class_of (get_or text to 0)))) e ∙ part_last all (class_of (get_or text to 0)) ∙ ap (λ z. class_of (get_or text z 0)) (sym e)
    ]

-- a row more
pub covers_row : (all row : ℕ) (text : List ℕ) (from mid to : ℕ) → Covers all text from mid
    → Covers row text mid to → Covers (bit_or all row) text from to
covers_row all row text from mid to h g k l u =
    elim (cases_lt k mid) [
      | inl less ↦ part_more _ all row (h k l less)
      | inr more ↦ ap (bit_and (class_of (get_or text k 0))) (or_comm all row) ∙ part_more _ row all (g k more u)
    ]

pub covers_none : (all classes : ℕ) (text : List ℕ) (from to : ℕ) → Covers all text from to
    → bit_and all classes ≡ 0
    → (k : ℕ) → from ≤ k → k < to → is_of classes (get_or text k 0) ≡ false
covers_none all classes text from to h n k l u = of_none (class_of (get_or text k 0)) classes (none_covered _ all classes (h k l u) n)

pub none_start : (classes : ℕ) (text : List ℕ) (from : ℕ) → from ≤ length text
    → NoneOf classes text from from
none_start classes text from h = record { forward = omega arith; inside = h; none = λ k l u. absurd (omega (arith, l, u)) }

pub none_more : (classes : ℕ) (text : List ℕ) (from at to : ℕ) → NoneOf classes text from at
    → at ≤ to → to ≤ length text
    → ((k : ℕ) → at ≤ k → k < to → is_of classes (get_or text k 0) ≡ false) → NoneOf classes text from to
none_more classes text from at to h f i n = record {
  forward = let g = h.forward in omega (arith, g, f);
  inside = i;
  none = λ k l u. elim (cases_lt k at) [ inl less ↦ h.none k l less | inr more ↦ n k more u ];
}

pub none_one : (classes : ℕ) (text : List ℕ) (from at : ℕ) → NoneOf classes text from at
    → at < length text
    → is_of classes (get_or text at 0) ≡ false → NoneOf classes text from (at + 1)
none_one classes text from at h i n =
    none_more classes text from at (at + 1) h (omega arith) (omega (arith, i)) (λ k l u. let e : k ≡ at = omega (arith, l, u) in ap (λ z. is_of classes (get_or text z 0)) e ∙ n)

-- the table, by computing
pub table_is : (table : List ℕ) (b : ℕ) → b < 256
    → agree_below (λ k. get_or table k 0 == class_of k) (λ _. true) 256 ≡ true
    → get_or table b 0 ≡ class_of b
table_is table b l h = eqb-true (get_or table b 0) (class_of b) (agree_below_at (λ k. get_or table k 0 == class_of k) (λ _. true) 256 b h l)

-- what is no byte is of all classes
high_class : (b : ℕ) → 256 ≤ b → class_of b ≡ 0x1FF
unfolding class_of
high_class b h = grind (arith, nat_tests, h)

-- a test on bytes that a class decides, by computing
pub by_class : (m : ℕ) (p : ℕ → Bool) → agree_below (is_of m) p 256 ≡ true
    → not (bit_and 0x1FF m == 0) ≡ true
    → (b : ℕ) → is_of m b ≡ false → p b ≡ false
by_class m p t high b n =
    elim (cases_lt b 256) [
      | inl low ↦ sym (agree_below_at (is_of m) p 256 b t low) ∙ n
      | inr more ↦ absurd (false≢true (sym n ∙ ap (λ z. not (bit_and z m == 0)) (high_class b more) ∙ high))
    ]

is_any : (b : ℕ) → bit_and (class_of b) 0xFFFF ≡ class_of b
unfolding class_of
is_any b =
    elim (cases_lt b 256) [
      | inl low ↦ eqb-true _ (class_of b) (agree_below_at (λ k. bit_and (class_of k) 0xFFFF == class_of k) (λ _. true) 256 b refl low)
      | inr more ↦ let e = high_class b more in ap (λ z. bit_and z 0xFFFF) e ∙ sym e
    ]

-- any class covers all
pub covers_any : (text : List ℕ) (from to : ℕ) → Covers 0xFFFF text from to
covers_any text from to k l u = is_any (get_or text k 0)
