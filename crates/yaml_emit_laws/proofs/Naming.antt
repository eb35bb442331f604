-- The anchors of a dump are names.
use Rattle.std.proofs.Common.{◌≡◌, ◌<◌, ℕ, zero, suc, ◌%◌, ◌/◌, Bool, true, false, List, [], ◌∷◌, ◌++◌, length, Some, None, refl, ◌∙◌, inl, inr, arith, length-append, ◌==◌, if◌then◌else◌}
use Rattle.std.specs.List.{list_all}
use Rattle.std.specs.Fmt.{digits_onto, digit_glyph}
use Rattle.yaml_emit_laws.proofs.DumpsWords.{cases_Bool, nat_tests, Problem, name_problem, anchor_problem, lead, name_of, anchor_of}
use Rattle.yaml_emit_graph.specs.Graph.{decimal_text}
use Rattle.std.proofs.lemmas.List.Folds.{list_all-append}
use Rattle.yaml_emit_graph.specs.scan_types.Classes.{is_digit_byte, is_alpha_byte}

-- ---- digits

digits_alpha : (k n : ℕ) (more : List ℕ) → list_all is_alpha_byte more ≡ true
    → list_all is_alpha_byte (digits_onto k 10 false n more) ≡ true
unfolding is_alpha_byte is_digit_byte
digits_alpha zero n more h = h
digits_alpha (suc k) n more h =
    let first : is_alpha_byte (digit_glyph false (n % 10)) ≡ true = grind (arith, nat_tests) in
    let both : list_all is_alpha_byte (digit_glyph false (n % 10) ∷ more) ≡ true = rw (first, h) refl in
    elim (cases_Bool (n / 10 == 0)) [
      | inl e ↦ rw e both
      | inr e ↦ rw e (digits_alpha k (n / 10) (digit_glyph false (n % 10) ∷ more) both)
    ]

-- ---- names

record IsLead (t : List ℕ) : Type 0 where
  alpha : list_all is_alpha_byte t ≡ true
  some : 0 < length t

either : (b : Bool) (s t : List ℕ) → IsLead s → IsLead t → IsLead (if b then s else t)
either true s t p q = p
either false s t p q = q

lead_right : (n : ℕ) → IsLead (lead n)
unfolding is_alpha_byte is_digit_byte
lead_right n =
    either (n == 1) _ _ record { alpha = refl; some = omega arith } (either (n == 2) _ _ record { alpha = refl; some = omega arith } record { alpha = refl; some = omega arith })

pub not_zero : (n : ℕ) → 0 < n → (n == 0) ≡ false
not_zero n h = grind (arith, nat_tests)

pub name_right : (empty characters : Problem) (n : ℕ)
    → name_problem empty characters (name_of n) ≡ None
unfolding name_of decimal_text
name_right empty characters n =
    let l = lead_right (length (decimal_text n)) in
    let some : (length (lead (length (decimal_text n)) ++ decimal_text n) == 0) ≡ false = not_zero _ (omega (arith, length-append (lead (length (decimal_text n))) (decimal_text n), l.some)) in
    let alpha : list_all is_alpha_byte (lead (length (decimal_text n)) ++ decimal_text n) ≡ true = list_all-append is_alpha_byte (lead (length (decimal_text n))) (decimal_text n) ∙ (rw (l.alpha, (digits_alpha (suc n) n [] refl)) refl) in
    rw (some, alpha) refl

anchor_if : (b : Bool) (n : ℕ) → anchor_problem (if b then None else Some (name_of n)) ≡ None
anchor_if true n = refl
anchor_if false n = name_right _ _ n

pub anchor_right : (n : ℕ) → anchor_problem (anchor_of n) ≡ None
anchor_right n = anchor_if (n == 0) n
