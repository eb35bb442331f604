-- Values without breaks, by their classes.
use Rattle.std.proofs.Common.{◌≡◌, ℕ, ◌<◌, Bool, false, List, length, slice_index, refl, arith}
use Rattle.std.specs.Prelude.{zero, suc, nat_lt, bit_and}
use Rattle.std.proofs.lemmas.Bool.Decides.{nat_tests}
use Rattle.yaml_scan_types.specs.Marks.{break_of}
use Rattle.yaml_scan_types.specs.Classes.{any_below, is_break, has_break}
use Rattle.yaml_emit_scalars.specs.Classes.{class_of, is_of, leads_break, Covers}
use Rattle.yaml_emit_scalars.proofs.ClassLemmas.{by_class, covers_none}

-- what leads no break begins none
calm_break : (b c d : ℕ) → leads_break b ≡ false → nat_lt 0 (break_of b c d) ≡ false
unfolding break_of
calm_break b c d h = grind (arith, nat_tests, h)

none_below : (test : ℕ → Bool) (n : ℕ) → ((k : ℕ) → k < n → test k ≡ false)
    → any_below n test ≡ false
unfolding any_below
none_below test zero h = refl
none_below test (suc n) h = rw (none_below test n (λ k l. h k (omega (arith, l))), h n (omega arith)) refl

leads_none : (b : ℕ) → is_of 0x002 b ≡ false → leads_break b ≡ false
unfolding class_of
leads_none b h = by_class 0x002 leads_break refl refl b h

pub unbroken : (classes : ℕ) (text : List ℕ) → Covers classes text 0 (length text)
    → bit_and classes 0x002 ≡ 0 → has_break text ≡ false
unbroken classes text h n =
    none_below (is_break text) (length text) (λ k l. calm_break _ _ _ (leads_none (slice_index text k) (covers_none classes 0x002 text 0 (length text) h n k (omega arith) l)))
