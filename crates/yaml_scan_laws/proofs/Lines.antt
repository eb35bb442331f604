-- What is at the end of a word, and runs of one byte or none.
use Rattle.std.proofs.Common.{◌≡◌, ◌≢◌, ℕ, ◌+◌, ◌<◌, ◌≤◌, ◌==◌, ◌&&◌, ◌||◌, nat_lt, Bool, true, false, List, [], ◌∷◌, length, Ok, refl, ◌∙◌, inl, inr, arith, add-zero}
use Rattle.yaml_scan_laws.proofs.TextWords.{cases_Bool, eqb-true, nat_tests, byte, break_of, break_width, is_blank_byte, is_blank_or_end, is_alpha_byte, is_digit_byte, is_digit, is_break, belongs, run_end, is_punctuation, is_wide_punctuation, is_uri, name_end, parts_at, tag_at, line_end_at, belongs_inside, run_more, run_stop, no_alpha_at, uri_range, uri_is_read}
use Rattle.std.proofs.Math.Bool.{or-true}
use Rattle.yaml_scan_history.specs.scan_model.declared.problem.Context.TheVariants as contexts
use Rattle.yaml_scan_history.specs.scan_types.Classes.{is_blank}

-- ---- runs, of a kind that the goal names

pub no_run : (run : _) (text : List ℕ) (p : ℕ) → belongs run text p ≡ false → run_end run text p ≡ p
no_run run text p stop = run_stop (length text) run text p stop

pub one_run : (run : _) (text : List ℕ) (p : ℕ) → belongs run text p ≡ true
    → belongs run text (p + 1) ≡ false → run_end run text p ≡ p + 1
one_run run text p here stop =
    let inside = belongs_inside run text p here in
    let (m, room, same) = run_more (length text) run text p here (omega arith) in
    same ∙ run_stop m run text (p + 1) stop

-- ---- tests of one byte

pub blank_is : (text : List ℕ) (p : ℕ) → byte text p ≡ 32 → is_blank text p ≡ true
blank_is text p h = rw h refl

pub no_blank : (text : List ℕ) (p b : ℕ) → byte text p ≡ b → b ≢ 32 → b ≢ 9
    → is_blank text p ≡ false
no_blank text p b h space tab = grind (arith, nat_tests)

pub digit_is : (text : List ℕ) (p b : ℕ) → byte text p ≡ b → 48 ≤ b → b ≤ 57
    → is_digit text p ≡ true
digit_is text p b h low high = rw h (unfold is_digit_byte in grind (arith, nat_tests))

pub dot_no_digit : (text : List ℕ) (p : ℕ) → byte text p ≡ 46 → is_digit text p ≡ false
dot_no_digit text p h = rw h (unfold is_digit_byte in refl)

pub space_no_alpha : (text : List ℕ) (p : ℕ) → byte text p ≡ 32
    → is_alpha_byte (byte text p) ≡ false
space_no_alpha text p h = rw h (unfold is_alpha_byte is_digit_byte in refl)

pub space_ends : (text : List ℕ) (p : ℕ) → byte text p ≡ 32 → is_blank_or_end text p ≡ true
space_ends text p h = rw h refl

-- ---- breaks

pub break_ends : (text : List ℕ) (p : ℕ) → is_break text p ≡ true → is_blank_or_end text p ≡ true
break_ends text p h = rw (h, or-true) refl

broken : (w : ℕ) → w ≡ 0 → nat_lt 0 w ≡ true → ⊥
broken w e h = grind (arith, nat_tests)

-- a printed character begins none
calm : (b c d : ℕ) → 32 < b → b < 127 → break_of b c d ≡ 0
unfolding break_of
calm b c d low high = grind (arith, nat_tests)

pub break_no_printed : (text : List ℕ) (p b : ℕ) → is_break text p ≡ true → byte text p ≡ b → 32 < b
    → b < 127 → ⊥
break_no_printed text p b h e low high = broken (break_width text p) (calm (byte text p) (byte text (p + 1)) (byte text (p + 2)) (omega arith) (omega arith)) h

blank_calm : (b c d : ℕ) → is_blank_byte b ≡ true → break_of b c d ≡ 0
unfolding break_of
blank_calm b c d h = grind (arith, nat_tests)

pub break_no_blank : (text : List ℕ) (p : ℕ) → is_break text p ≡ true → is_blank text p ≡ false
break_no_blank text p h = grind (arith, nat_tests, broken, blank_calm)

digit_range : (b : ℕ) → is_digit_byte b ≡ true → (32 < b) × (b < 127)
unfolding is_digit_byte
digit_range b h = (grind (arith, nat_tests), grind (arith, nat_tests))

pub break_no_digit : (text : List ℕ) (p : ℕ) → is_break text p ≡ true → is_digit text p ≡ false
break_no_digit text p h = grind (arith, nat_tests, digit_range, break_no_printed)

pub break_no_uri : (text : List ℕ) (p : ℕ) → is_break text p ≡ true
    → (byte text p == 37 || is_uri true text p) ≡ false
break_no_uri text p h =
    elim (cases_Bool (byte text p == 37)) [
      | inl e ↦ absurd (break_no_printed text p 37 h (eqb-true _ _ e) (omega arith) (omega arith))
      | inr e ↦ elim (cases_Bool (is_uri true text p)) [
        | inl u ↦ let (low, high) = uri_range true text p u in absurd (break_no_printed text p (byte text p) h refl low high)
        | inr u ↦ rw (e, u) refl
      ]
    ]

no_hash : (text : List ℕ) (p : ℕ) → is_break text p ≡ true → (byte text p == 35) ≡ false
no_hash text p h = grind (arith, nat_tests, break_no_printed)

-- the line of a directive ends after its break
pub line_ends : (text : List ℕ) (p : ℕ) → is_break text p ≡ true
    → line_end_at text p ≡ Ok (p + break_width text p)
unfolding belongs
line_ends text p h = rw (no_run _ text p (break_no_blank text p h), (no_hash text p h), h) refl

-- ---- `!` alone

space_plain : (32 == 37 || (is_alpha_byte 32
    || (is_punctuation 32 || (false && is_wide_punctuation 32)))) ≡ false
unfolding is_alpha_byte is_digit_byte is_punctuation is_wide_punctuation
space_plain = refl

-- A lone `!` reads as a tag without handle.
pub lone_mark_is_read : (flow : Bool) (text : List ℕ) (p : ℕ) → byte text p ≡ 33
    → byte text (p + 1) ≡ 32
    → tag_at flow text p ≡ Ok record { handle = []; suffix = 33 ∷ []; end = p + 1 }
unfolding parts_at
lone_mark_is_read flow text p mark space =
    let name : name_end text p ≡ p + 1 = no_run _ text (p + 1) (no_alpha_at text (p + 1) (space_no_alpha text (p + 1) space)) in
    let here : byte text (p + 1 + 0) ≡ 32 = rw (add-zero, space) refl in
    let read = uri_is_read contexts.TagUri false text (p + 1) [] tt refl (rw here space_plain) in
    rw (space, name, space, read, add-zero, space) refl
