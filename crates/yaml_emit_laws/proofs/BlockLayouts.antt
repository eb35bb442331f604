-- What the layout of a block scalar's body writes for a character.
use Rattle.std.proofs.Common.{◌≡◌, ℕ, Bool, true, false, not, ◌&&◌, ◌==◌, List, [], ◌∷◌, ◌++◌, replicate, refl, sym, ap, ◌∙◌, arith}
use Rattle.yaml_emit_laws.proofs.ScalarWords.{nat_tests, Cursor, LineBreak, Lf, letter, is_break, Layout, Rest, when, char, blanks, new_line, line, indent_to, must_break, is_past, first, value_break, adds_break, cuts_block, line_blank, block_text, block_char, behind_breaks, in_front, break_text, cond_true, cond_false, front_append, moved_by, LineMark, own, separator, paragraph, mark_char, mark_text, blanks_are, after_blanks, from_start, broken, at_line}
use Rattle.yaml_emit_layout.specs.declared.page.Page.{Page}
use Rattle.yaml_emit_layout.specs.Style.{is_blank}
use Rattle.yaml_emit_laws.proofs.BlockHeader.{mark_breaks}

pub new_line_is : (b : LineBreak) (c : Cursor) (rest : Rest)
    → new_line b c rest ≡ in_front (break_text b) (rest (at_line c.kept))
unfolding in_front
new_line_is Lf c rest = refl
new_line_is _ c rest = refl

indent_is : (n : ℕ) (kept : Bool) (rest : Rest)
    → indent_to n (at_line kept) rest
    ≡ in_front (replicate n 32) (rest (after_blanks n (at_line kept)))
indent_is n kept rest = ap (λ k. blanks k (at_line kept) rest) (from_start n) ∙ blanks_are n (at_line kept) rest

-- after a character a line begins with a break
pub line_is : (b : LineBreak) (n : ℕ) (c : Cursor) (rest : Rest) → c.bare ≡ false
    → line b n c rest ≡ in_front (break_text b ++ replicate n 32)
    (rest (after_blanks n (at_line c.kept)))
unfolding line
line_is b n c rest e = grind (arith, nat_tests, broken, cond_true, new_line_is, indent_is, front_append)

-- at its start only spaces come
pub start_is : (b : LineBreak) (n : ℕ) (kept : Bool) (rest : Rest)
    → line b n (at_line kept) rest ≡ in_front (replicate n 32)
    (rest (after_blanks n (at_line kept)))
unfolding line
start_is b n kept rest =
    let none : must_break n (at_line kept) ≡ false = grind (arith, nat_tests) in
    cond_false (must_break n (at_line kept)) (new_line b (at_line kept) (λ d. indent_to n d rest)) (indent_to n (at_line kept) rest) none ∙ indent_is n kept rest

-- ---- breaks

value_break_is : (b : LineBreak) (m : LineMark) (c : Cursor) (rest : Rest)
    → value_break b (mark_char m) c rest ≡ in_front (mark_text b m) (rest (at_line c.kept))
unfolding in_front
value_break_is b own c rest = new_line_is b c rest
value_break_is b separator c rest = refl
value_break_is b paragraph c rest = refl

-- what is before a break that one more comes before
abbrev pub added : Bool → LineBreak → List ℕ
added true b = break_text b
added false b = []

when_break : (a : Bool) (b : LineBreak) (m : LineMark) (c : Cursor) (rest : Rest)
    → when a (new_line b) c (λ d. value_break b (mark_char m) d rest)
    ≡ in_front (added a b ++ mark_text b m) (rest (at_line c.kept))
when_break true b m c rest =
    new_line_is b c (λ d. value_break b (mark_char m) d rest) ∙ ap (in_front (break_text b)) (value_break_is b m (at_line c.kept) rest) ∙ sym (front_append (break_text b) (mark_text b m) (rest (at_line c.kept)))
when_break false b m c rest = value_break_is b m c rest

pub break_is : (page : Page) (folded blank : Bool) (before : ℕ) (m : LineMark) (xs : List ℕ)
    (a : Bool) (c : Cursor) (rest : Rest) → adds_break folded blank before (mark_char m) xs ≡ a
    → block_char page folded blank before (mark_char m) xs c rest
    ≡ in_front (added a page.line_break ++ mark_text page.line_break m) (rest (at_line c.kept))
unfolding block_char
break_is page folded blank before m xs a c rest e =
    ap (λ (l : Layout). l c rest) (cond_true (is_break (mark_char m)) _ _ (mark_breaks m))
    ∙ ap (λ t. when t (new_line page.line_break) c (λ d. value_break page.line_break (mark_char m) d rest)) e
    ∙ when_break a page.line_break m c rest

no_and : (a b c d : Bool) → c ≡ true → (a && (b && (not c && d))) ≡ false
no_and false b c d e = refl
no_and true false c d e = refl
no_and true true c d e = rw e refl

-- after a break none is added
pub none_added : (folded blank : Bool) (before x : ℕ) (xs : List ℕ) → is_break before ≡ true
    → adds_break folded blank before x xs ≡ false
none_added folded blank before x xs e = no_and folded (x == 10) (is_break before) (not blank && not (is_blank (behind_breaks xs))) e

-- ---- characters of a text

no_cut : (a b c d e : Bool) → d ≡ true → (a && (b && (c && (not d && e)))) ≡ false
no_cut a b c d e h = grind (arith, nat_tests)

char_at : (page : Page) (folded blank : Bool) (before x : ℕ) (xs : List ℕ) (c : Cursor)
    (rest : Rest) → is_break x ≡ false
    → block_char page folded blank before x xs c rest
    ≡ when (is_break before) (line page.line_break page.indentation) c
    (λ d. block_text page (cuts_block folded blank before x xs) x d rest)
unfolding block_char
char_at page folded blank before x xs c rest e = ap (λ (l : Layout). l c rest) (cond_false (is_break x) _ _ e)

-- the first of a line
pub first_is : (page : Page) (folded blank : Bool) (before x : ℕ) (xs : List ℕ) (kept : Bool)
    (rest : Rest) → is_break x ≡ false → is_break before ≡ true
    → block_char page folded blank before x xs (at_line kept) rest
    ≡ in_front (replicate page.indentation 32 ++ x ∷ [])
    (rest (moved_by (after_blanks page.indentation (at_line kept))))
unfolding in_front
first_is page folded blank before x xs kept rest e f =
    let cuts : cuts_block folded blank before x xs ≡ false = no_cut folded (x == 32) (not blank) (is_break before) (not (first xs == 32)) f in
    char_at page folded blank before x xs (at_line kept) rest e
    ∙ ap (λ t. when t (line page.line_break page.indentation) (at_line kept) (λ d. block_text page (cuts_block folded blank before x xs) x d rest)) f
    ∙ ap (λ t. line page.line_break page.indentation (at_line kept) (λ d. block_text page t x d rest)) cuts
    ∙ start_is page.line_break page.indentation kept (λ d. char x d rest)
    ∙ sym (front_append (replicate page.indentation 32) (x ∷ []) (rest (moved_by (after_blanks page.indentation (at_line kept)))))

past_cut : (page : Page) (b : Bool) (x : ℕ) (c : Cursor) (rest : Rest) → b ≡ true
    → is_past page.width c ≡ true
    → block_text page b x c rest ≡ line page.line_break page.indentation c rest
past_cut page true x c rest e p = cond_true (is_past page.width c) (line page.line_break page.indentation c rest) (char x c rest) p
past_cut page false x c rest e p = absurd (cc)

uncut : (page : Page) (b : Bool) (x : ℕ) (c : Cursor) (rest : Rest)
    → (b && is_past page.width c) ≡ false → block_text page b x c rest ≡ char x c rest
uncut page true x c rest e = cond_false (is_past page.width c) (line page.line_break page.indentation c rest) (char x c rest) e
uncut page false x c rest e = refl

in_line : (page : Page) (folded blank : Bool) (before x : ℕ) (xs : List ℕ) (c : Cursor)
    (rest : Rest) → is_break x ≡ false → is_break before ≡ false
    → block_char page folded blank before x xs c rest
    ≡ block_text page (cuts_block folded blank before x xs) x c rest
in_line page folded blank before x xs c rest e f =
    char_at page folded blank before x xs c rest e
    ∙ ap (λ t. when t (line page.line_break page.indentation) c (λ d. block_text page (cuts_block folded blank before x xs) x d rest)) f

-- one that is written
pub char_is : (page : Page) (folded blank : Bool) (before x : ℕ) (xs : List ℕ) (c : Cursor)
    (rest : Rest) → is_break x ≡ false → is_break before ≡ false
    → (cuts_block folded blank before x xs && is_past page.width c) ≡ false
    → block_char page folded blank before x xs c rest ≡ letter x ∷ rest (moved_by c)
char_is page folded blank before x xs c rest e f g = in_line page folded blank before x xs c rest e f ∙ uncut page (cuts_block folded blank before x xs) x c rest g

-- a space at which the line is cut
pub cut_is : (page : Page) (folded blank : Bool) (before x : ℕ) (xs : List ℕ) (c : Cursor)
    (rest : Rest) → is_break x ≡ false → is_break before ≡ false
    → cuts_block folded blank before x xs ≡ true → is_past page.width c ≡ true → c.bare ≡ false
    → block_char page folded blank before x xs c rest
    ≡ in_front (break_text page.line_break ++ replicate page.indentation 32)
    (rest (after_blanks page.indentation (at_line c.kept)))
cut_is page folded blank before x xs c rest e f g h i =
    in_line page folded blank before x xs c rest e f ∙ past_cut page (cuts_block folded blank before x xs) x c rest g h ∙ line_is page.line_break page.indentation c rest i

-- ---- whether the line begins with a blank

pub blank_break : (blank : Bool) (before x : ℕ) → is_break x ≡ true
    → line_blank blank before x ≡ blank
blank_break blank before x e = cond_true (is_break x) _ _ e

pub blank_first : (blank : Bool) (before x : ℕ) → is_break x ≡ false → is_break before ≡ true
    → line_blank blank before x ≡ is_blank x
blank_first blank before x e f = cond_false (is_break x) _ _ e ∙ cond_true (is_break before) _ _ f

pub blank_in : (blank : Bool) (before x : ℕ) → is_break x ≡ false → is_break before ≡ false
    → line_blank blank before x ≡ blank
blank_in blank before x e f = cond_false (is_break x) _ _ e ∙ cond_false (is_break before) _ _ f
