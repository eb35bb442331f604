-- Layouts that mark no indentation as too deep, and those that do by one test.
use Rattle.std.proofs.Common.{◌≡◌, ℕ, zero, suc, ◌+◌, ◌-◌, Bool, true, false, ◌||◌, ◌==◌, nat_lt, List, [], ◌∷◌, refl, ap, ◌∙◌, inl, inr}
use Rattle.yaml_emit_laws.proofs.Shared.{cases_Bool, Cursor, Encoding, Utf8, LineBreak, Lf, Cr, CrLf, Item, letter, is_deep, Rest, Layout, ◌▹◌, stay, choose, when, char, letters, blank, blanks, break, new_line, is_white, gap, word, opener, must_break, indent_to, line, is_past, keep, order_mark, needs_escape, escape_text, may_fold, fold, escaped, quoted_char, quoted_body, quoted_text, MOST, deep_if, checked}
use Rattle.yaml_emit_layout.specs.declared.Page.{Page}
use Rattle.yaml_emit_layout.specs.Quoted.{first}
use Rattle.yaml_emit_layout.proofs.Bools.{or_assoc}

-- Whatever follows: where what follows is marked or not wherever it begins, so is the whole, or it is marked here.
abbrev pub Marks : Bool → Layout → Type 0
Marks d a = (b : Bool) (rest : Rest) → ((c : Cursor) → is_deep (rest c) ≡ b) → (c : Cursor) → is_deep (a c rest) ≡ (d || b)

abbrev pub Calm : Layout → Type 0
Calm a = Marks false a

pub both : (d e : Bool) (a b : Layout) → Marks d a → Marks e b → Marks (d || e) (a ▹ b)
both d e a b x y m rest h c = x (e || m) (λ k. b k rest) (λ k. y m rest h k) c ∙ or_assoc d e m

pub calms : (a b : Layout) → Calm a → Calm b → Calm (a ▹ b)
calms a b x y = both false false a b x y

pub calm_then : (e : Bool) (a b : Layout) → Calm a → Marks e b → Marks e (a ▹ b)
calm_then e a b x y = both false e a b x y

pub then_calm : (d : Bool) (a b : Layout) → Marks d a → Calm b → Marks d (a ▹ b)
then_calm d a b x y m rest h c = x m (λ k. b k rest) (λ k. y m rest h k) c

pub stay_calm : Calm stay
stay_calm m rest h c = h c

pub when_calm : (b : Bool) (a : Layout) → Calm a → Calm (when b a)
when_calm true a x = x
when_calm false a x = stay_calm

pub choose_calm : (test : Cursor → Bool) (a b : Layout) → Calm a → Calm b → Calm (choose test a b)
choose_calm test a b x y m rest h c =
    elim (cases_Bool (test c)) [
      | inl e ↦ rw e (x m rest h c)
      | inr e ↦ rw e (y m rest h c)
    ]

pub char_calm : (x : ℕ) → Calm (char x)
unfolding is_deep
char_calm x m rest h c = h _

pub blank_calm : Calm blank
unfolding is_deep
blank_calm m rest h c = h _

pub break_calm : (x : ℕ) → Calm (break x)
unfolding is_deep
break_calm x m rest h c = h _

pub keep_calm : (b : Bool) → Calm (keep b)
keep_calm b m rest h c = h _

pub mark_calm : (x : Encoding) → Calm (order_mark x)
unfolding is_deep
mark_calm Utf8 m rest h c = h _
mark_calm _ m rest h c = h _

pub letters_calm : (t : List ℕ) → Calm (letters t)
unfolding letters
letters_calm [] = stay_calm
letters_calm (x ∷ xs) = calms (char x) (letters xs) (char_calm x) (letters_calm xs)

pub blanks_calm : (n : ℕ) → Calm (blanks n)
unfolding blanks
blanks_calm zero = stay_calm
blanks_calm (suc n) = calms blank (blanks n) blank_calm (blanks_calm n)

pub new_line_calm : (b : LineBreak) → Calm (new_line b)
new_line_calm Lf = break_calm 10
new_line_calm Cr = break_calm 13
new_line_calm CrLf = calms (char 13) (break 10) (char_calm 13) (break_calm 10)

pub gap_calm : Calm gap
gap_calm = choose_calm is_white stay blank stay_calm blank_calm

pub word_calm : (t : List ℕ) → Calm (word t)
word_calm t = calms gap (letters t) gap_calm (letters_calm t)

pub opener_calm : (x : ℕ) → Calm (opener x)
unfolding is_deep
opener_calm x = calms gap (λ c rest. letter x ∷ rest (record { column = c.column + 1; white = true; bare = false; kept = c.kept })) gap_calm
    (λ m rest h c. h (record { column = c.column + 1; white = true; bare = false; kept = c.kept }))

pub line_calm : (b : LineBreak) (n : ℕ) → Calm (line b n)
unfolding line
line_calm b n = calms (choose (must_break n) (new_line b) stay) (indent_to n) (choose_calm (must_break n) (new_line b) stay (new_line_calm b) stay_calm) (λ m rest h c. blanks_calm (n - c.column) m rest h c)

-- ---- double quoted text

fold_calm : (page : Page) (rest : List ℕ) → Calm (fold page rest)
fold_calm page rest =
    calms (new_line page.line_break) (blanks page.indentation ▹ when (first rest == 32) (char 92)) (new_line_calm page.line_break)
    (calms (blanks page.indentation) (when (first rest == 32) (char 92)) (blanks_calm page.indentation) (when_calm (first rest == 32) (char 92) (char_calm 92)))

escaped_calm : (unicode : Bool) (x : ℕ) → Calm (escaped unicode x)
escaped_calm unicode x =
    elim (cases_Bool (needs_escape unicode x)) [
      | inl e ↦ rw e (letters_calm (escape_text x))
      | inr e ↦ rw e (char_calm x)
    ]

quoted_char_calm : (page : Page) (before x : ℕ) (rest : List ℕ)
    → Calm (quoted_char page before x rest)
unfolding quoted_char
quoted_char_calm page before x rest =
    elim (cases_Bool (may_fold page before x rest)) [
      | inl e ↦ rw e (choose_calm (is_past page.width) (fold page rest) (char x) (fold_calm page rest) (char_calm x))
      | inr e ↦ rw e (escaped_calm page.unicode x)
    ]

quoted_body_calm : (page : Page) (before : ℕ) (xs : List ℕ) → Calm (quoted_body page before xs)
unfolding quoted_body
quoted_body_calm page before [] = stay_calm
quoted_body_calm page before (x ∷ xs) = calms (quoted_char page before x xs) (quoted_body page x xs) (quoted_char_calm page before x xs) (quoted_body_calm page x xs)

pub quoted_calm : (page : Page) (value : List ℕ) → Calm (quoted_text page value)
quoted_calm page value =
    calms gap (char 34 ▹ (quoted_body page 32 value ▹ char 34)) gap_calm
    (calms (char 34) (quoted_body page 32 value ▹ char 34) (char_calm 34) (calms (quoted_body page 32 value) (char 34) (quoted_body_calm page 32 value) (char_calm 34)))

-- ---- where an indentation is too deep

deep_by : (d : Bool) (t : List Item) → is_deep (deep_if d t) ≡ (d || is_deep t)
unfolding is_deep
deep_by true t = refl
deep_by false t = refl

pub checked_marks : (n : ℕ) → Marks (nat_lt MOST n) (checked n)
checked_marks n m rest h c = deep_by (nat_lt MOST n) (rest c) ∙ ap (λ (b : Bool). nat_lt MOST n || b) (h c)
