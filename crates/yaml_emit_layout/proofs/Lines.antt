-- A break and the spaces after it.
use Rattle.std.proofs.Common.{◌≡◌, ℕ, ◌+◌, ◌-◌, ◌≤◌, List, ◌∷◌, Bool, true, false, refl, sym, ◌∙◌, ap, arith}
use Rattle.std.specs.Prelude.{zero, suc, ◌&&◌, ◌==◌, nat_lt}
use Rattle.std.proofs.lemmas.Bool.{false≢true, or_parts, ltb-false, eq-eqb}
use Rattle.yaml_emit_layout.specs.declared.cursor.Cursor.{Cursor}
use Rattle.yaml_emit_layout.specs.declared.settings.LineBreak.{LineBreak}
use Rattle.yaml_emit_layout.specs.declared.settings.LineBreak.TheVariants.{Lf, Cr, CrLf}
use Rattle.yaml_emit_layout.specs.Text.{Item, letter}
use Rattle.yaml_emit_layout.specs.Layout.{Layout, Rest, ◌▹◌, blanks, fresh, line, must_break, indent_to}
use Rattle.yaml_emit_layout.proofs.Sinks.{cond_true, cond_false}

-- the cursor at the start of a line
abbrev home : Cursor → Cursor
home c = record { column = 0; white = true; bare = true; kept = c.kept }

no_less : (n : ℕ) → n - 0 ≡ n
no_less n = omega arith

line_fresh : (k : LineBreak) (n : ℕ) (c : Cursor) (rest : Rest) → must_break n c ≡ true
    → line k n c rest ≡ fresh k n c rest
unfolding line
line_fresh Lf n c rest m = cond_true (must_break n c) _ _ m ∙ ap (λ v. letter 10 ∷ blanks v (home c) rest) (no_less n)
line_fresh Cr n c rest m = cond_true (must_break n c) _ _ m ∙ ap (λ v. letter 13 ∷ blanks v (home c) rest) (no_less n)
line_fresh CrLf n c rest m = cond_true (must_break n c) _ _ m ∙ ap (λ v. letter 13 ∷ letter 10 ∷ blanks v (home c) rest) (no_less n)

line_stays : (k : LineBreak) (n : ℕ) (c : Cursor) (rest : Rest) → must_break n c ≡ false
    → line k n c rest ≡ indent_to n c rest
unfolding line
line_stays k n c rest m = cond_false (must_break n c) _ _ m

-- ---- where a line ends

-- two layouts are the same after that many spaces in a bare line
abbrev pub AreSame : ℕ → Layout → Layout → Rest → Type 0
AreSame n x y rest = (kept : Bool) → x (record { column = n; white = true; bare = true; kept = kept }) rest
    ≡ y (record { column = n; white = true; bare = true; kept = kept }) rest

-- by how many spaces are due
blanks_land : (i n k : ℕ) (white kept : Bool) (x y : Layout) (rest : Rest)
    → i ≡ n - k → k ≤ n → (i ≡ 0 → white ≡ true)
    → AreSame n x y rest
    → (blanks i ▹ x) (record { column = k; white = white; bare = true; kept = kept }) rest
    ≡ (blanks i ▹ y) (record { column = k; white = white; bare = true; kept = kept }) rest
unfolding blanks
blanks_land zero n k white kept x y rest e h w f =
    let there : k ≡ n = omega (arith, e, h) in
    rw (w refl, there) (f kept)
blanks_land (suc i) n k white kept x y rest e h w f =
    ap (λ (t : List Item). letter 32 ∷ t) (blanks_land i n (k + 1) true kept x y rest (omega (arith, e)) (omega (arith, e, h)) (λ z. refl) f)

-- where the line isn't broken
lands_joined : (n k : ℕ) (white bare kept : Bool) (x y : Layout) (rest : Rest)
    → must_break n (record { column = k; white = white; bare = bare; kept = kept }) ≡ false
    → AreSame n x y rest
    → (blanks (n - k) ▹ x) (record { column = k; white = white; bare = bare; kept = kept }) rest
    ≡ (blanks (n - k) ▹ y) (record { column = k; white = white; bare = bare; kept = kept }) rest
lands_joined n k white false kept x y rest m f = absurd (cc)
lands_joined n k true true kept x y rest m f =
    let p = or_parts (nat_lt n k) (k == n && false) m in
    blanks_land (n - k) n k true kept x y rest refl (ltb-false n k p.0) (λ z. refl) f
lands_joined n k false true kept x y rest m f =
    let p = or_parts (nat_lt n k) (k == n && true) m in
    let less = ltb-false n k p.0 in
    blanks_land (n - k) n k false kept x y rest refl less (λ z. absurd (false≢true (sym p.1 ∙ ap (λ (b : Bool). b && true) (eq-eqb k n (omega (arith, less, z)))))) f

fresh_lands : (b : LineBreak) (n : ℕ) (c : Cursor) (x y : Layout) (rest : Rest)
    → AreSame n x y rest
    → (fresh b n ▹ x) c rest ≡ (fresh b n ▹ y) c rest
fresh_lands Lf n c x y rest f = ap (λ (t : List Item). letter 10 ∷ t) (blanks_land n n 0 true c.kept x y rest (omega arith) (omega arith) (λ z. refl) f)
fresh_lands Cr n c x y rest f = ap (λ (t : List Item). letter 13 ∷ t) (blanks_land n n 0 true c.kept x y rest (omega arith) (omega arith) (λ z. refl) f)
fresh_lands CrLf n c x y rest f = ap (λ (t : List Item). letter 13 ∷ letter 10 ∷ t) (blanks_land n n 0 true c.kept x y rest (omega arith) (omega arith) (λ z. refl) f)

lands_by : (m : Bool) (b : LineBreak) (n : ℕ) (c : Cursor) (x y : Layout) (rest : Rest)
    → must_break n c ≡ m
    → AreSame n x y rest
    → (line b n ▹ x) c rest ≡ (line b n ▹ y) c rest
lands_by true b n c x y rest m f =
    line_fresh b n c (λ d. x d rest) m ∙ fresh_lands b n c x y rest f ∙ sym (line_fresh b n c (λ d. y d rest) m)
lands_by false b n c x y rest m f =
    line_stays b n c (λ d. x d rest) m ∙ lands_joined n c.column c.white c.bare c.kept x y rest m f ∙ sym (line_stays b n c (λ d. y d rest) m)

-- after a line the column is its indentation, and it is bare
pub line_lands : (b : LineBreak) (n : ℕ) (x y : Layout) (rest : Rest)
    → AreSame n x y rest
    → (c : Cursor) → (line b n ▹ x) c rest ≡ (line b n ▹ y) c rest
line_lands b n x y rest f c = lands_by (must_break n c) b n c x y rest refl f
