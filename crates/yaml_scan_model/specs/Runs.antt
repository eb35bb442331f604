-- Runs of bytes of one kind.
use Rattle.std.specs.Prelude.{ℕ, zero, suc, ◌+◌, ◌<◌, ◌≤◌, ◌≡◌, Bool, true, false, not, ◌&&◌, ◌||◌, ◌==◌, nat_lt, if◌then◌else◌, List, length}
use Rattle.yaml_scan_types.specs.Ascii as ascii
use Rattle.yaml_scan_types.specs.Marks.{byte, break_width, is_blank, starts}

-- the first place from there on that is not of the kind, at most n bytes on
unfoldable pub past : (List ℕ → ℕ → Bool) → ℕ → List ℕ → ℕ → ℕ
past kind zero text p = p
past kind (suc n) text p = if kind text p then past kind n text (p + 1) else p

abbrev pub is_blank_there : List ℕ → ℕ → Bool
is_blank_there text p = is_blank (byte text p)

abbrev pub is_space_there : List ℕ → ℕ → Bool
is_space_there text p = byte text p == ascii.space

-- neither a break nor the end is there
abbrev pub is_text : List ℕ → ℕ → Bool
is_text text p = not (byte text p == 0 || nat_lt 0 (break_width text p))

-- the place after the blanks there
abbrev pub past_blanks : List ℕ → ℕ → ℕ
past_blanks text p = past is_blank_there (length text) text p

-- the place after the spaces there
abbrev pub past_spaces : List ℕ → ℕ → ℕ
past_spaces text p = past is_space_there (length text) text p

-- the place of the break or the end after the text there
abbrev pub line_end : List ℕ → ℕ → ℕ
line_end text p = past is_text (length text) text p

-- A byte that is passed: a printed character of ASCII, or a space; where runs are wide, no control of ASCII but the last one, and no
-- byte with which a break begins, so that it is text whatever follows.
abbrev pub passes : Bool → ℕ → Bool
passes false b = nat_lt ascii.unit_separator b && nat_lt b ascii.delete
passes true b = nat_lt ascii.unit_separator b && (not (b == 0xC2) && not (b == 0xE2))

-- there are such bytes from one place to another
pub record ArePassed (wide : Bool) (text : List ℕ) (p q : ℕ) : Type 0 where
  pub forward : p ≤ q
  pub each : (k : ℕ) → p ≤ k → k < q → passes wide (byte text k) ≡ true

-- how many characters begin among the n bytes there
unfoldable pub columns_over : ℕ → List ℕ → ℕ → ℕ
columns_over zero text p = 0
columns_over (suc n) text p = columns_over n text p
    + (if starts (byte text (p + n)) then 1 else 0)
