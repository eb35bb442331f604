-- Layouts that write characters which a stream may hold.
use Rattle.std.proofs.Common.{ℕ, zero, suc, ◌+◌, ◌-◌, Bool, true, false, List, [], ◌∷◌, arith}
use Rattle.yaml_emit_laws.specs.emit_layout.declared.Cursor.{Cursor}
use Rattle.yaml_emit_laws.specs.emit_layout.declared.LineBreak.{LineBreak}
use Rattle.yaml_emit_laws.specs.emit_layout.declared.LineBreak.TheVariants.{Lf, Cr, CrLf}
use Rattle.yaml_round_content.proofs.ReadBackWords.{nat_tests, Item, letter, deep, shown, Layout, Rest, ◌▹◌, stay, choose, when, char, letters, blank, blanks, break, new_line, gap, is_white, word, opener, must_break, indent_to, line, keep}
use Rattle.yaml_round_content.proofs.Characters.{Fits, AllFit, is_32, feed_fits, return_fits}

abbrev pub Allowed : List Item → Type 0
Allowed t = AllFit (shown t)

-- what it writes may be there, where what follows may
abbrev pub Tame : Layout → Type 0
Tame a = (c : Cursor) (rest : Rest) → ((d : Cursor) → Allowed (rest d)) → Allowed (a c rest)

-- Nothing is allowed.
pub nothing_allowed : Allowed []
unfolding shown
nothing_allowed = tt

-- A letter that fits before what is allowed is allowed.
pub letter_allowed : (x : ℕ) (t : List Item) → Fits x → Allowed t → Allowed (letter x ∷ t)
unfolding shown
letter_allowed x t f h = (f, h)

-- The note that a line is too deep is allowed.
pub deep_allowed : (t : List Item) → Allowed t → Allowed (deep ∷ t)
unfolding shown
deep_allowed t h = h

-- Two tame layouts are tame one after another.
pub both : (a b : Layout) → Tame a → Tame b → Tame (a ▹ b)
both a b ta tb c rest h = ta c (λ d. b d rest) (λ d. tb d rest h)

-- To stay is tame.
pub stay_tame : Tame stay
stay_tame c rest h = h c

-- A choice between tame layouts is tame.
pub choose_tame : (test : Cursor → Bool) (a b : Layout) → Tame a → Tame b → Tame (choose test a b)
choose_tame test a b ta tb c rest h = grind (arith, nat_tests)

-- A tame layout that is written or not is tame.
pub when_tame : (b : Bool) (a : Layout) → Tame a → Tame (when b a)
when_tame b a t = grind (arith, nat_tests, stay_tame)

-- A character that fits is a tame layout.
pub char_tame : (x : ℕ) → Fits x → Tame (char x)
char_tame x f c rest h = letter_allowed x (rest _) f (h _)

pub letters_tame : (xs : List ℕ) → AllFit xs → Tame (letters xs)
unfolding letters
letters_tame [] fs = stay_tame
letters_tame (x ∷ xs) (f, fs) = both (char x) (letters xs) (char_tame x f) (letters_tame xs fs)

blank_tame : Tame blank
blank_tame c rest h = letter_allowed 32 (rest _) is_32 (h _)

pub blanks_tame : (n : ℕ) → Tame (blanks n)
unfolding blanks
blanks_tame zero = stay_tame
blanks_tame (suc n) = both blank (blanks n) blank_tame (blanks_tame n)

-- A break is tame.
pub break_tame : (x : ℕ) → Fits x → Tame (break x)
break_tame x f c rest h = letter_allowed x (rest _) f (h _)

-- A line break is tame.
pub new_line_tame : (b : LineBreak) → Tame (new_line b)
new_line_tame Lf = break_tame 10 feed_fits
new_line_tame Cr = break_tame 13 return_fits
new_line_tame CrLf = both (char 13) (break 10) (char_tame 13 return_fits) (break_tame 10 feed_fits)

-- A gap is tame.
pub gap_tame : Tame gap
gap_tame = choose_tame is_white stay blank stay_tame blank_tame

-- A word of characters that fit is tame.
pub word_tame : (xs : List ℕ) → AllFit xs → Tame (word xs)
word_tame xs fs = both gap (letters xs) gap_tame (letters_tame xs fs)

-- An indicator that fits is tame.
pub opener_tame : (x : ℕ) → Fits x → Tame (opener x)
opener_tame x f = both gap (λ c rest. letter x ∷ rest (record { column = c.column + 1; white = true; bare = false; kept = c.kept })) gap_tame (λ c rest h. letter_allowed x (rest _) f (h _))

-- A line with its indentation is tame.
pub line_tame : (b : LineBreak) (n : ℕ) → Tame (line b n)
unfolding line
line_tame b n = both (choose (must_break n) (new_line b) stay) (indent_to n) (choose_tame (must_break n) (new_line b) stay (new_line_tame b) stay_tame) (λ c rest h. blanks_tame (n - c.column) c rest h)

-- To keep or not to keep breaks is tame.
pub keep_tame : (b : Bool) → Tame (keep b)
keep_tame b c rest h = h _
