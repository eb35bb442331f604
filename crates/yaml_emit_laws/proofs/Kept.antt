-- Quoted text leaves the cursor's mark of kept breaks.
use Rattle.std.proofs.Common.{◌≡◌, ℕ, zero, suc, ◌+◌, Bool, true, false, ◌==◌, List, [], ◌∷◌, refl, sym, ap, ◌∙◌, inl, inr, if◌then◌else◌}
use Rattle.yaml_emit_laws.proofs.Shared.{cases_Bool, Cursor, LineBreak, Lf, Cr, CrLf, Item, deep, is_deep, Layout, Rest, ◌▹◌, stay, choose, when, char, letters, blank, blanks, break, new_line, is_past, Page, needs_escape, escape_text, may_fold, fold, escaped, quoted_char, quoted_body, in_front}
use Rattle.yaml_emit_layout.specs.Quoted.{first}

-- What follows is marked or not by whether the cursor there keeps breaks; a layout that leaves
-- `kept` passes the mark on.
abbrev Leaves : Layout → Type 0
Leaves a = (c : Cursor) (rest : Rest) (b : Bool) → ((d : Cursor) → d.kept ≡ c.kept → is_deep (rest d) ≡ b) → is_deep (a c rest) ≡ b

stay_leaves : Leaves stay
stay_leaves c rest b h = h c refl

char_leaves : (x : ℕ) → Leaves (char x)
unfolding is_deep
char_leaves x c rest b h = h (record { column = c.column + 1; white = false; bare = false; kept = c.kept }) refl

break_leaves : (x : ℕ) → Leaves (break x)
unfolding is_deep
break_leaves x c rest b h = h (record { column = 0; white = true; bare = true; kept = c.kept }) refl

blank_leaves : Leaves blank
unfolding is_deep
blank_leaves c rest b h = h (record { column = c.column + 1; white = true; bare = c.bare; kept = c.kept }) refl

then_leaves : (a b : Layout) → Leaves a → Leaves b → Leaves (a ▹ b)
then_leaves a b f g c rest m h = f c (λ d. b d rest) m (λ d e. g d rest m (λ x k. h x (k ∙ e)))

when_leaves : (t : Bool) (a : Layout) → Leaves a → Leaves (when t a)
when_leaves true a f = f
when_leaves false a f = stay_leaves

if_leaves : (t : Bool) (a b : Layout) → Leaves a → Leaves b → Leaves (if t then a else b)
if_leaves true a b f g = f
if_leaves false a b f g = g

chosen : (t : Bool) (m : Bool) (x y : List Item) → is_deep x ≡ m → is_deep y ≡ m
    → is_deep (if t then x else y) ≡ m
chosen true m x y e f = e
chosen false m x y e f = f

choose_leaves : (test : Cursor → Bool) (a b : Layout) → Leaves a → Leaves b
    → Leaves (choose test a b)
choose_leaves test a b f g c rest m h = chosen (test c) m (a c rest) (b c rest) (f c rest m h) (g c rest m h)

letters_leave : (xs : List ℕ) → Leaves (letters xs)
unfolding letters
letters_leave [] = stay_leaves
letters_leave (x ∷ xs) = then_leaves (char x) (letters xs) (char_leaves x) (letters_leave xs)

blanks_leave : (n : ℕ) → Leaves (blanks n)
unfolding blanks
blanks_leave zero = stay_leaves
blanks_leave (suc n) = then_leaves blank (blanks n) blank_leaves (blanks_leave n)

line_leaves : (l : LineBreak) → Leaves (new_line l)
line_leaves Lf = break_leaves 10
line_leaves Cr = break_leaves 13
line_leaves CrLf = then_leaves (char 13) (break 10) (char_leaves 13) (break_leaves 10)

fold_leaves : (page : Page) (rest : List ℕ) → Leaves (fold page rest)
fold_leaves page rest =
    then_leaves (new_line page.line_break) (blanks page.indentation ▹ when (first rest == 32) (char 92)) (line_leaves page.line_break)
    (then_leaves (blanks page.indentation) (when (first rest == 32) (char 92)) (blanks_leave page.indentation) (when_leaves (first rest == 32) (char 92) (char_leaves 92)))

quoted_char_leaves : (page : Page) (before x : ℕ) (rest : List ℕ)
    → Leaves (quoted_char page before x rest)
unfolding quoted_char
quoted_char_leaves page before x rest =
    if_leaves (may_fold page before x rest) (choose (is_past page.width) (fold page rest) (char x)) (escaped page.unicode x)
    (choose_leaves (is_past page.width) (fold page rest) (char x) (fold_leaves page rest) (char_leaves x))
    (if_leaves (needs_escape page.unicode x) (letters (escape_text x)) (char x) (letters_leave (escape_text x)) (char_leaves x))

body_leaves : (page : Page) (before : ℕ) (xs : List ℕ) → Leaves (quoted_body page before xs)
unfolding quoted_body
body_leaves page before [] = stay_leaves
body_leaves page before (x ∷ xs) = then_leaves (quoted_char page before x xs) (quoted_body page x xs) (quoted_char_leaves page before x xs) (body_leaves page x xs)

-- the mark that shows a cursor's own
abbrev marks : Rest
marks c = if c.kept then deep ∷ [] else []

marks_tell : (c : Cursor) → is_deep (marks c) ≡ c.kept
unfolding is_deep
marks_tell c = elim (cases_Bool c.kept) [ inl e ↦ rw e refl | inr e ↦ rw e refl ]

front_deep : (xs : List ℕ) (t : List Item) → is_deep (in_front xs t) ≡ is_deep t
unfolding in_front is_deep
front_deep [] t = refl
front_deep (x ∷ xs) t = front_deep xs t

-- So the cursor after quoted text keeps breaks where the one before it does.
pub body_keeps : (page : Page) (before : ℕ) (xs : List ℕ) (c behind : Cursor) (front : List ℕ)
    → ((rest : Rest) → quoted_body page before xs c rest ≡ in_front front (rest behind))
    → behind.kept ≡ c.kept
body_keeps page before xs c behind front same =
    let left : is_deep (quoted_body page before xs c marks) ≡ c.kept = body_leaves page before xs c marks c.kept (λ d e. marks_tell d ∙ e) in
    let right : is_deep (quoted_body page before xs c marks) ≡ behind.kept = ap (λ (t : List Item). is_deep t) (same marks) ∙ front_deep front (marks behind) ∙ marks_tell behind in
    sym right ∙ left
