-- Lines, folds and choices that a draft lays.
use Rattle.std.proofs.Common.{◌≡◌, ℕ, ◌-◌, List, ◌∷◌, ◌++◌, Bool, true, false, refl, sym, subst, ◌∙◌, ap, arith}
use Rattle.std.specs.Prelude.{◌||◌, ◌&&◌, ◌==◌, nat_lt, if◌then◌else◌}
use Rattle.std.proofs.lemmas.Bool.Decides.{nat_tests}
use Rattle.yaml_emit_layout.specs.declared.cursor.Cursor.{Cursor}
use Rattle.yaml_emit_layout.specs.declared.settings.LineBreak.{LineBreak}
use Rattle.yaml_emit_layout.specs.declared.settings.LineBreak.TheVariants.{Lf, Cr, CrLf}
use Rattle.yaml_emit_layout.specs.Text.{Item, letter}
use Rattle.yaml_emit_layout.specs.Layout.{Layout, Rest, ◌▹◌, stay, when, choose, char, letters, blanks, new_line, line, must_break}
use Rattle.yaml_emit_layout.proofs.Sinks.{cond_true, cond_false, letters_append}
use Rattle.yaml_emit_layout.proofs.Lines.{line_lands}
use Rattle.yaml_emit_layout.specs.declared.page.Page.{Page}
use Rattle.yaml_emit_layout.specs.Quoted.{first, fold}
use Rattle.yaml_emit_layout.specs.Scalars.{value_break}
use Rattle.yaml_emit_output.specs.Draft.{line_mark, Page as Paper, Lays}
use Rattle.yaml_emit_scalars.proofs.LaysLemmas.{lays_both, lays_is, lays_same}
use Rattle.yaml_emit_output.proofs.Pages.{lays_break}

-- one text after another
pub lays_letters : (a b c : Paper) (xs ys : List ℕ) → Lays a b (letters xs) stay
    → Lays b c (letters ys) stay → Lays a c (letters (xs ++ ys)) stay
lays_letters a b c xs ys p q = let P : Layout → Type 0 = λ t. Lays a c t stay in subst P (sym (letters_append xs ys)) (lays_both a b c (letters xs) (letters ys) p q)

-- a choice by the cursor
pub lays_chosen : (a b : Paper) (test : Cursor → Bool) (x y : Layout) → test a.output.cursor ≡ true
    → Lays a b x stay → Lays a b (choose test x y) stay
lays_chosen a b test x y e p = lays_is a b x (choose test x y) (λ rest. cond_true (test a.output.cursor) (x a.output.cursor rest) (y a.output.cursor rest) e) p

pub lays_other : (a b : Paper) (test : Cursor → Bool) (x y : Layout) → test a.output.cursor ≡ false
    → Lays a b y stay → Lays a b (choose test x y) stay
lays_other a b test x y e p = lays_is a b y (choose test x y) (λ rest. cond_false (test a.output.cursor) (x a.output.cursor rest) (y a.output.cursor rest) e) p

pub lays_unless : (a : Paper) (t : Bool) (x : Layout) → t ≡ false → Lays a a (when t x) stay
lays_unless a t x e = let P : Bool → Type 0 = λ v. Lays a a (when v x) stay in subst P (sym e) (lays_same a stay)

pub lays_due : (a b : Paper) (t : Bool) (x : Layout) → t ≡ true → Lays a b x stay
    → Lays a b (when t x) stay
lays_due a b t x e p = let P : Bool → Type 0 = λ v. Lays a b (when v x) stay in subst P (sym e) p

-- a line
pub lays_line : (k l : LineBreak) (n : ℕ) (a b : Paper) → k ≡ l
    → Lays a b (line k n ▹ line_mark 0 false) stay → Lays a b (line l n) stay
lays_line k l n a b e p = let P : LineBreak → Type 0 = λ z. Lays a b (line z n) stay in subst P e (lays_is a b (line k n ▹ line_mark 0 false) (line k n) (λ rest. refl) p)

at_home : Cursor → Cursor
at_home c = record { column = 0; white = true; bare = true; kept = c.kept }

no_less : (n : ℕ) → n - 0 ≡ n
no_less n = omega arith

stays_home : (n : ℕ) → ((false || nat_lt n 0) || (0 == n && false)) ≡ false
stays_home n = grind (arith, nat_tests)

line_home : (k : LineBreak) (n : ℕ) (c : Cursor) (rest : Rest)
    → line k n (at_home c) rest ≡ blanks n (at_home c) rest
unfolding line at_home
line_home k n c rest = cond_false (must_break n (at_home c)) _ _ (stays_home n) ∙ ap (λ v. blanks v (at_home c) rest) (no_less n)

behind_break : (k : LineBreak) (x y : Layout) (rest : Rest)
    → ((c : Cursor) → x (at_home c) rest ≡ y (at_home c) rest) → (c : Cursor)
    → (new_line k ▹ x) c rest ≡ (new_line k ▹ y) c rest
unfolding at_home
behind_break Lf x y rest f c = ap (λ (t : List Item). letter 10 ∷ t) (f c)
behind_break Cr x y rest f c = ap (λ (t : List Item). letter 13 ∷ t) (f c)
behind_break CrLf x y rest f c = ap (λ (t : List Item). letter 13 ∷ letter 10 ∷ t) (f c)

same_mark : (n : ℕ) (s kept : Bool) (rest : Rest)
    → when s (char 92) (record { column = n; white = true; bare = true; kept = kept }) rest
    ≡ line_mark (if s then 92 else 0) false (record { column = n; white = true; bare = true; kept = kept }) rest
unfolding letters
same_mark n true kept rest = refl
same_mark n false kept rest = refl

fold_is : (k : LineBreak) (n : ℕ) (s : Bool) (c : Cursor) (rest : Rest)
    → (new_line k ▹ (blanks n ▹ when s (char 92))) c rest ≡ (new_line k ▹ (line k n ▹ line_mark (if s then 92 else 0) false)) c rest
fold_is k n s c rest =
    behind_break k (blanks n ▹ when s (char 92)) (line k n ▹ line_mark (if s then 92 else 0) false) rest
    (λ d. sym (line_home k n d (λ e. when s (char 92) e rest)) ∙ line_lands k n (when s (char 92)) (line_mark (if s then 92 else 0) false) rest (λ kept. same_mark n s kept rest) (at_home d)) c

pub fold_lays : (page : Page) (rest : List ℕ) (m : ℕ) (k l : LineBreak) (a b c : Paper)
    → k ≡ page.line_break → l ≡ page.line_break
    → m ≡ (if first rest == 32 then 92 else 0) → Lays a b (new_line k) stay → Lays b c (line l page.indentation ▹ line_mark m false) stay
    → Lays a c (fold page rest) stay
fold_lays page rest m k l a b c e f g p q =
    let n = page.indentation in
    let s = first rest == 32 in
    let P : ℕ → LineBreak → Type 0 = λ z w. Lays b c (line w n ▹ line_mark z false) stay in
    let R : ℕ → Type 0 = λ z. P z page.line_break in
    let lined = subst R g (subst (P m) f q) in
    lays_is a c (new_line page.line_break ▹ (line page.line_break n ▹ line_mark (if s then 92 else 0) false)) (fold page rest)
    (λ more. fold_is page.line_break n s a.output.cursor more)
    (lays_both a b c (new_line page.line_break) (line page.line_break n ▹ line_mark (if s then 92 else 0) false) (lays_break k page.line_break a b e p) lined)

-- breaks of a value
pub lays_breaks : (due : Bool) (k l m : LineBreak) (x : ℕ) (a b c : Paper) → k ≡ m → l ≡ m
    → Lays a b (when due (new_line k)) stay
    → Lays b c (value_break l x) stay → Lays a c (when due (new_line m) ▹ value_break m x) stay
lays_breaks due k l m x a b c e f p q =
    let P : LineBreak → Type 0 = λ z. Lays a b (when due (new_line z)) stay in
    let Q : LineBreak → Type 0 = λ z. Lays b c (value_break z x) stay in
    lays_both a b c (when due (new_line m)) (value_break m x) (subst P e p) (subst Q f q)
