-- The number that hexadecimal digits spell, from either end.
use Rattle.std.proofs.Common.{◌≡◌, ℕ, zero, suc, ◌+◌, ◌*◌, ◌^◌, ◌<◌, List, [], ◌∷◌, length, Option, Some, None, option_and_then, option_map, refl, sym, ap, ◌∙◌, arith, add-zero}
use Rattle.std.proofs.Math.Nat.{mul_assoc, pow-suc}
use Rattle.yaml_scan_history.proofs.ScalarWords.{byte, hex_digit, hex_value, no_digits, digit, number_of, DigitsAreRead, DigitsStandThere, OneIsNoDigit}

-- a number and a digit after it
abbrev with_digit : Option ℕ → Option ℕ → Option ℕ
with_digit high low = option_and_then (λ h. option_map (λ l. h * 16 + l) low) high

parts : (high low : Option ℕ) (v : ℕ) → with_digit high low ≡ Some v
    → (h : ℕ) × (l : ℕ) × (high ≡ Some h) × (low ≡ Some l) × (v ≡ h * 16 + l)
parts high low v e = grind arith

moved : (d x w l : ℕ) → (d * x + w) * 16 + l ≡ d * (x * 16) + (w * 16 + l)
moved d x w l = rw (← mul_assoc d x 16) (omega arith)

last_parts : (text : List ℕ) (p n v : ℕ) → hex_value text p (suc n) ≡ Some v
    → (h : ℕ) × (l : ℕ) × (hex_value text p n ≡ Some h) × (hex_digit (byte text (p + n)) ≡ Some l)
    × (v ≡ h * 16 + l)
unfolding hex_value
last_parts text p n v e = parts (hex_value text p n) (hex_digit (byte text (p + n))) v e

pub none_read : (text : List ℕ) (p : ℕ) → hex_value text p 0 ≡ Some 0
unfolding hex_value
none_read text p = refl

one_more : (text : List ℕ) (p n h l : ℕ) → hex_value text p n ≡ Some h
    → hex_digit (byte text (p + n)) ≡ Some l → hex_value text p (suc n) ≡ Some (h * 16 + l)
unfolding hex_value
one_more text p n h l a b = rw (a, b) refl

single : (d : ℕ) → 0 * 16 + d ≡ d * 16 ^ 0 + 0
single d = omega arith

behind : (p n : ℕ) → p + suc n ≡ p + 1 + n
behind p n = omega arith

first_read : (text : List ℕ) (p n d w : ℕ) → hex_digit (byte text p) ≡ Some d
    → hex_value text (p + 1) n ≡ Some w → hex_value text p (suc n) ≡ Some (d * 16 ^ n + w)
first_read text p zero d w a b =
    let start : hex_value text (p + 1) 0 ≡ Some 0 = none_read text (p + 1) in
    let none : w ≡ 0 = cc in
    let there : hex_digit (byte text (p + 0)) ≡ Some d = rw add-zero a in
    rw none (one_more text p 0 0 d (none_read text p) there ∙ ap (λ (x : ℕ). Some x) (single d))
first_read text p (suc n) d w a b =
    let (h, l, before, last, is) = last_parts text (p + 1) n w b in
    let there : hex_digit (byte text (p + suc n)) ≡ Some l = ap (λ (q : ℕ). hex_digit (byte text q)) (behind p n) ∙ last in
    one_more text p (suc n) (d * 16 ^ n + h) l (first_read text p n d h a before) there
    ∙ ap (λ (x : ℕ). Some x) (moved d (16 ^ n) h l ∙ ap (λ (x : ℕ). d * x + (h * 16 + l)) (sym (pow-suc 16 n)) ∙ ap (λ (x : ℕ). d * 16 ^ suc n + x) (sym is))

pub digits_are_read : DigitsAreRead
digits_are_read text p ds (no_digits q) = none_read text q
digits_are_read text p ds (digit q d rest a more) = first_read text q (length rest) d (number_of rest) a (digits_are_read text (q + 1) rest more)

first_parts : (text : List ℕ) (p n v : ℕ) → hex_value text p (suc n) ≡ Some v
    → (d : ℕ) × (w : ℕ) × (hex_digit (byte text p) ≡ Some d)
    × (hex_value text (p + 1) n ≡ Some w) × (v ≡ d * 16 ^ n + w)
first_parts text p zero v e =
    let (h, l, before, last, is) = last_parts text p 0 v e in
    let start : hex_value text p 0 ≡ Some 0 = none_read text p in
    let none : h ≡ 0 = cc in
    (l, 0, rw add-zero at last, none_read text (p + 1), rw none at is ∙ single l)
first_parts text p (suc n) v e =
    let (h, l, before, last, is) = last_parts text p (suc n) v e in
    let (d, w, first, rest, all) = first_parts text p n h before in
    let there : hex_digit (byte text (p + 1 + n)) ≡ Some l = ap (λ (q : ℕ). hex_digit (byte text q)) (sym (behind p n)) ∙ last in
    (d, w * 16 + l, first, one_more text (p + 1) n w l rest there, is ∙ ap (λ (x : ℕ). x * 16 + l) all ∙ moved d (16 ^ n) w l ∙ ap (λ (x : ℕ). d * x + (w * 16 + l)) (sym (pow-suc 16 n)))

pub digits_stand_there : DigitsStandThere
digits_stand_there text p zero v e =
    let start : hex_value text p 0 ≡ Some 0 = none_read text p in
    ([], no_digits p, refl, cc)
digits_stand_there text p (suc n) v e =
    let (d, w, first, rest, is) = first_parts text p n v e in
    let (ds, are, long, spelled) = digits_stand_there text (p + 1) n w rest in
    (d ∷ ds, digit p d ds first are, ap (λ (k : ℕ). suc k) long, is ∙ whole d w n ds long spelled)
  where
    whole : (d w n : ℕ) (ds : List ℕ) → length ds ≡ n → w ≡ number_of ds
        → d * 16 ^ n + w ≡ d * 16 ^ length ds + number_of ds
    whole d w n ds a b = rw (a, ← b) refl

abbrev Missing : List ℕ → ℕ → ℕ → Type 0
Missing text p n = (k : ℕ) × (k < n) × (hex_digit (byte text (p + k)) ≡ None)

one_missing : (text : List ℕ) (p n : ℕ) (high : Option ℕ)
    → with_digit high (hex_digit (byte text (p + n))) ≡ None → (high ≡ None → Missing text p n)
    → Missing text p (suc n)
one_missing text p n high e before = grind arith

pub one_is_no_digit : OneIsNoDigit
unfolding hex_value
one_is_no_digit text p zero e = absurd {0} cc
one_is_no_digit text p (suc n) e = one_missing text p n (hex_value text p n) e (one_is_no_digit text p n)
