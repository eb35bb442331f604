-- Looks at a text.
use Rattle.std.proofs.Common.{◌≡◌, ℕ, ◌+◌, ◌-◌, ◌<◌, ◌≤◌, ◌&&◌, ◌||◌, Bool, List, length, take, drop, refl, ◌∙◌, ◌⊎◌, inl, inr, arith}
use Rattle.yaml_scan_text.proofs.Words.{nat_tests, cases_lt, byte, break_of, break_width, feed_at, column_at, is_blank_or_end, is_document_indicator, past_break, value_three, feed_some, slice_bytes, bytes_more, bytes_none}
use Rattle.yaml_scan_text.specs.White.{is_thrice}

pub break_inside : (text : List ℕ) (p : ℕ) → 0 < break_width text p
    → p + break_width text p ≤ length text
break_inside text p h = (past_break text p h).inside

pub three_inside : (text : List ℕ) (p : ℕ) → break_width text p ≡ 3 → p + 3 ≤ length text
three_inside text p h = rw h at (break_inside text p (omega (arith, h)))

three_bytes : (b c d : ℕ) → break_of b c d ≡ 3 → (b ≡ 0xE2) × (c ≡ 0x80)
unfolding break_of
three_bytes b c d h = (grind (arith, nat_tests), grind (arith, nat_tests))

pub three_value : (text : List ℕ) (p : ℕ) → break_width text p ≡ 3
    → take (p + 3 - p) (drop p text) ≡ feed_at text p
three_value text p h =
    let d : p + 3 - p ≡ 3 = omega arith in
    let (b, c) = three_bytes (byte text p) (byte text (p + 1)) (byte text (p + 2)) h in
    let e : p + 1 + 1 ≡ p + 2 = omega arith in
    rw (d, slice_bytes text p 3 (three_inside text p h), feed_some text p (omega (arith, h)), value_three text p h)
    (bytes_more text p 2 ∙ rw (bytes_more (text) (p + 1) 1, bytes_more text (p + 1 + 1) 0, bytes_none text (p + 1 + 1 + 1), e, b, c) refl)

pub is_mark : (text : List ℕ) (p : ℕ) → column_at text p ≡ 0
    → is_document_indicator text p ≡ (is_thrice 45 text p || is_thrice 46 text p)
unfolding is_document_indicator
is_mark text p h = rw h (parted (is_blank_or_end text (p + 3)) _ _)
  where
    parted : (last a b : Bool) → ((a || b) && last) ≡ ((a && last) || (b && last))
    parted last a b = grind arith

-- the place after a break, or that place where there is none, is no further than the text or the
-- place
pub break_within : (text : List ℕ) (p : ℕ) → (break_width text p ≡ 0)
    ⊎ (p + break_width text p ≤ length text)
break_within text p = elim (cases_lt 0 (break_width text p)) [
  | inl l ↦ inr (break_inside text p l)
  | inr z ↦ inl (omega arith)
]
