-- Double quoted text is a spelling.
use Rattle.std.proofs.Common.{◌≡◌, ◌≢◌, ℕ, zero, suc, ◌+◌, ◌<◌, List, [], ◌∷◌, ◌++◌, Bool, true, false, refl, sym, ◌∙◌, ap, arith}
use Rattle.std.specs.Prelude.{if◌then◌else◌, replicate, not, ◌==◌, ◌&&◌}
use Rattle.std.specs.Str.{all_scalars}
use Rattle.std.proofs.lemmas.Bool.{and_parts, and_from, not-true, eqb-true, ne_eqb, eqb-false, or_parts, or_from, lt-ltb}
use Rattle.std.proofs.lemmas.Bool.Decides.{nat_tests}
use lib.Utf8.{scalar}
use Rattle.yaml_emit_layout.specs.declared.cursor.Cursor.{Cursor}
use Rattle.yaml_emit_layout.specs.declared.page.Page.{Page}
use Rattle.yaml_emit_layout.specs.declared.settings.LineBreak.{LineBreak}
use Rattle.yaml_emit_layout.specs.declared.settings.LineBreak.TheVariants.{Lf, Cr, CrLf}
use Rattle.yaml_emit_layout.specs.Text.{Item, letter, is_break}
use Rattle.yaml_emit_layout.specs.Layout.{Rest, when, char, letters, blanks, new_line, is_past}
use Rattle.yaml_emit_layout.specs.Quoted.{is_printable, needs_escape, escape_text, first, is_empty, may_fold, fold as fold_layout, quoted_char, quoted_body}
use Rattle.yaml_emit_layout.specs.Spelling.{SpelledPart, raw, escape, escaped_space, fold, break_text, spelled, meant, spelling, meaning, is_raw_blank, is_fold, may_follow, may_stand, IsSpelling, in_front, WritesSpelling}
use Rattle.yaml_emit_layout.proofs.Sinks.{cond_false, cond_true}
use Rattle.yaml_emit_layout.proofs.Bools.{bool_cases}
use Rattle.yaml_emit_layout.proofs.Escapes.{char_is}

-- Layouts that write characters, and the cursor after them.

-- The cursor after a letter.
abbrev pub moved_by : Cursor → Cursor
moved_by c = record { column = c.column + 1; white = false; bare = false; kept = c.kept }

-- The cursor after a space.
abbrev pub spaced_by : Cursor → Cursor
spaced_by c = record { column = c.column + 1; white = true; bare = c.bare; kept = c.kept }

-- The cursor where a line begins.
abbrev pub line_start : Cursor → Cursor
line_start c = record { column = 0; white = true; bare = true; kept = c.kept }

abbrev after_letters : List ℕ → Cursor → Cursor
after_letters [] c = c
after_letters (x ∷ xs) c = after_letters xs (moved_by c)

-- The cursor after spaces.
abbrev pub after_blanks : ℕ → Cursor → Cursor
after_blanks zero c = c
after_blanks (suc n) c = after_blanks n (spaced_by c)

letters_are : (xs : List ℕ) (c : Cursor) (rest : Rest)
    → letters xs c rest ≡ in_front xs (rest (after_letters xs c))
unfolding letters in_front
letters_are [] c rest = refl
letters_are (x ∷ xs) c rest = ap (λ t. letter x ∷ t) (letters_are xs (moved_by c) rest)

-- Blanks are spaces before the rest.
pub blanks_are : (n : ℕ) (c : Cursor) (rest : Rest)
    → blanks n c rest ≡ in_front (replicate n 32) (rest (after_blanks n c))
unfolding blanks in_front
blanks_are zero c rest = refl
blanks_are (suc n) c rest = ap (λ t. letter 32 ∷ t) (blanks_are n (spaced_by c) rest)

-- A new line is its break before the rest.
pub new_line_is : (b : LineBreak) (c : Cursor) (rest : Rest)
    → new_line b c rest ≡ in_front (break_text b) (rest (line_start c))
unfolding in_front
new_line_is Lf c rest = refl
new_line_is Cr c rest = refl
new_line_is CrLf c rest = refl

-- Two texts before a layout's items are one after another.
pub in_front_append : (xs ys : List ℕ) (t : List Item)
    → in_front (xs ++ ys) t ≡ in_front xs (in_front ys t)
unfolding in_front
in_front_append [] ys t = refl
in_front_append (x ∷ xs) ys t = ap (λ u. letter x ∷ u) (in_front_append xs ys t)

abbrev slashed : Bool → List Item → List Item
slashed b t = if b then letter 92 ∷ t else t

abbrev after_slash : Bool → Cursor → Cursor
after_slash b c = if b then moved_by c else c

slash_is : (b : Bool) (c : Cursor) (rest : Rest)
    → when b (char 92) c rest ≡ slashed b (rest (after_slash b c))
slash_is true c rest = refl
slash_is false c rest = refl

abbrev after_fold : Page → List ℕ → Cursor → Cursor
after_fold page cs c = after_slash (first cs == 32) (after_blanks page.indentation (line_start c))

fold_is : (page : Page) (cs : List ℕ) (c : Cursor) (rest : Rest)
    → fold_layout page cs c rest ≡ in_front (spelled (fold page.line_break page.indentation))
    (slashed (first cs == 32) (rest (after_fold page cs c)))
fold_is page cs c rest =
    new_line_is page.line_break c (λ d. blanks page.indentation d (λ k. when (first cs == 32) (char 92) k rest))
    ∙ ap (in_front (break_text page.line_break)) (blanks_are page.indentation (line_start c) (λ k. when (first cs == 32) (char 92) k rest)
    ∙ ap (in_front (replicate page.indentation 32)) (slash_is (first cs == 32) (after_blanks page.indentation (line_start c)) rest))
    ∙ sym (in_front_append (break_text page.line_break) (replicate page.indentation 32) (slashed (first cs == 32) (rest (after_fold page cs c))))

-- A rest of a value after a part, and after a backslash where one was written for its space.
record Left (page : Page) (before : ℕ) (c : Cursor) (slash : Bool) (last : SpelledPart) (value : List ℕ) : Type 0 where
  parts : List SpelledPart
  behind : Cursor
  right : IsSpelling last parts
  text : (rest : Rest)
      → slashed slash (quoted_body page before value c rest)
      ≡ in_front (spelling parts) (rest behind)
  means : value ≡ meaning parts

-- how the last part is related to the character before
record Behind (before : ℕ) (slash : Bool) (last : SpelledPart) (value : List ℕ) : Type 0 where
  same : meant last ≡ before
  folded : is_fold last ≡ true → (slash ≡ (first value == 32)) × (is_empty value ≡ false)
  unfolded : is_fold last ≡ false → slash ≡ false
  blank : is_raw_blank last ≡ true → before ≡ 32

-- what a fold needs
record FoldNeeds (before x : ℕ) (cs : List ℕ) : Type 0 where
  space : x ≡ 32
  behind : before ≢ 32
  more : is_empty cs ≡ false

fold_needs : (page : Page) (before x : ℕ) (cs : List ℕ) → may_fold page before x cs ≡ true
    → FoldNeeds before x cs
fold_needs page before x cs e =
    let (space, alone) = and_parts (x == 32) _ (and_parts page.cuts _ e).1 in
    let (behind, more) = and_parts (not (before == 32)) _ alone in
    record { space = eqb-true x 32 space; behind = eqb-false before 32 (not-true (before == 32) behind); more = not-true (is_empty cs) more }

space_needs_none : (unicode : Bool) (x : ℕ) → x ≡ 32 → needs_escape unicode x ≡ false
unfolding needs_escape
space_needs_none true x e = rw e refl
space_needs_none false x e = rw e refl

raw_stands : (unicode : Bool) (c : ℕ) → scalar c ≡ true → needs_escape unicode c ≡ false
    → may_stand (raw c) ≡ true
unfolding needs_escape
raw_stands unicode c s e =
    let (a, no_slash) = or_parts _ (c == 92) e in
    let (b, no_quote) = or_parts _ (c == 34) a in
    let (d, no_break) = or_parts _ (is_break c) b in
    let printable = (or_parts (not (is_printable c)) _ d).0 in
    let no_zero : (c == 0) ≡ false = grind (arith, nat_tests, printable) in
    rw (s, no_break, no_quote, no_slash, no_zero) refl

raw_no_tab : (unicode : Bool) (c : ℕ) → needs_escape unicode c ≡ false → c ≢ 32
    → is_raw_blank (raw c) ≡ false
unfolding needs_escape
raw_no_tab unicode c e n =
    let printable = (or_parts (not (is_printable c)) _ (or_parts _ (is_break c) (or_parts _ (c == 34) (or_parts _ (c == 92) e).0).0).0).0 in
    or_from (c == 32) (c == 9) (ne_eqb c 32 n) (grind (arith, nat_tests, printable))

no_and : (a : Bool) → not (a && false) ≡ true
no_and true = refl
no_and false = refl

follow_other : (last p : SpelledPart) → is_fold p ≡ false → is_raw_blank p ≡ false
    → may_follow last p ≡ true
follow_other last p a b = rw (a, b) (no_and (is_fold last))

fold_means : (p : SpelledPart) → is_fold p ≡ true → meant p ≡ 32
fold_means (fold b n) e = refl
fold_means escaped_space e = refl
fold_means _ e = absurd (cc)

-- one part more before it
part_more : (page : Page) (before x : ℕ) (c d : Cursor) (cs : List ℕ) (slash slash' : Bool)
    (last p : SpelledPart)
    → may_follow last p ≡ true → may_stand p ≡ true → meant p ≡ x
    → ((rest : Rest) → slashed slash (quoted_char page before x cs c rest)
    ≡ in_front (spelled p) (slashed slash' (rest d)))
    → Left page x d slash' p cs → Left page before c slash last (x ∷ cs)
unfolding IsSpelling quoted_body spelling meaning
part_more page before x c d cs slash slash' last p follow stand same step r = record {
  parts = p ∷ r.parts;
  behind = r.behind;
  right = (follow, stand, r.right);
  text = λ rest. step (λ k. quoted_body page x cs k rest) ∙ ap (in_front (spelled p)) (r.text rest) ∙ sym (in_front_append (spelled p) (spelling r.parts) (rest r.behind));
  means = ap (λ k. k ∷ cs) (sym same) ∙ ap (λ t. meant p ∷ t) r.means;
}

-- a space that is written as it is, or after a backslash
space_char : (page : Page) (before x : ℕ) (cs : List ℕ) (c : Cursor) → x ≡ 32
    → (may_fold page before x cs && is_past page.width c) ≡ false → (rest : Rest)
    → quoted_char page before x cs c rest ≡ char x c rest
space_char page before x cs c e f rest =
    bool_cases (may_fold page before x cs)
    (λ m. bool_cases (is_past page.width c) (λ p. let g = and_from (may_fold page before x cs) (is_past page.width c) m p in absurd (cc (sym g ∙ f))) (λ p. char_is page before x cs c rest true false _ m p refl))
    (λ m. char_is page before x cs c rest false _ false m refl (space_needs_none page.unicode x e))

no_fold : (page : Page) (before x : ℕ) (cs : List ℕ) → (x == 32) ≡ false
    → may_fold page before x cs ≡ false
no_fold page before x cs e =
    bool_cases (may_fold page before x cs)
    (λ t. let needs = fold_needs page before x cs t in absurd (eqb-false x 32 e needs.space))
    (λ f. f)

left : (page : Page) (before : ℕ) (c : Cursor) (slash : Bool) (last : SpelledPart) (value : List ℕ)
    → all_scalars value ≡ true → 0 < page.indentation → Behind before slash last value
    → Left page before c slash last value
unfolding IsSpelling quoted_body spelling meaning in_front
left page before c slash last [] good deep h =
    let unfolded : is_fold last ≡ false = bool_cases (is_fold last) (λ t. let k = (h.folded t).1 in absurd (cc k)) (λ f. f) in
    record { parts = []; behind = c; right = unfolded; text = λ rest. cond_false slash _ _ (h.unfolded unfolded); means = refl }
left page before c slash last (x ∷ cs) good deep h =
    let (one, more) = and_parts (scalar x) (all_scalars cs) good in
    bool_cases (may_fold page before x cs && is_past page.width c)
    (λ f.
    let (m, p) = and_parts (may_fold page before x cs) (is_past page.width c) f in
    let needs = fold_needs page before x cs m in
    let unfolded : is_fold last ≡ false = bool_cases (is_fold last) (λ t. absurd (needs.behind (sym h.same ∙ fold_means last t))) (λ u. u) in
    let unblank : is_raw_blank last ≡ false = bool_cases (is_raw_blank last) (λ t. absurd (needs.behind (h.blank t))) (λ u. u) in
    part_more page before x c (after_fold page cs c) cs slash (first cs == 32) last (fold page.line_break page.indentation)
    (rw (unblank, unfolded) refl) (lt-ltb 0 page.indentation deep) (sym needs.space)
    (λ rest. cond_false slash _ _ (h.unfolded unfolded) ∙ char_is page before x cs c rest true true _ m p refl ∙ fold_is page cs c rest)
    (left page x (after_fold page cs c) (first cs == 32) (fold page.line_break page.indentation) cs more deep
    (record { same = sym needs.space; folded = λ t. (refl, needs.more); unfolded = λ t. absurd (cc); blank = λ t. needs.space })))
    (λ f.
    bool_cases (x == 32)
    (λ sp.
    let space = eqb-true x 32 sp in
    bool_cases (is_fold last)
    (λ t.
    part_more page before x c (moved_by c) cs slash false last escaped_space (follow_other last escaped_space refl refl) refl (sym space)
    (λ rest. cond_true slash _ _ ((h.folded t).0 ∙ sp) ∙ ap (λ t. letter 92 ∷ t) (space_char page before x cs c space f rest) ∙ ap (λ k. letter 92 ∷ letter k ∷ rest (moved_by c)) space)
    (left page x (moved_by c) false escaped_space cs more deep (record { same = sym space; folded = λ e. absurd (cc); unfolded = λ e. refl; blank = λ e. absurd (cc) })))
    (λ u.
    part_more page before x c (moved_by c) cs slash false last (raw x) (rw u refl) (raw_stands page.unicode x one (space_needs_none page.unicode x space)) refl
    (λ rest. cond_false slash _ _ (h.unfolded u) ∙ space_char page before x cs c space f rest)
    (left page x (moved_by c) false (raw x) cs more deep (record { same = refl; folded = λ e. absurd (cc); unfolded = λ e. refl; blank = λ e. space }))))
    (λ ns.
    let apart = eqb-false x 32 ns in
    let m = no_fold page before x cs ns in
    let unslashed : slash ≡ false = bool_cases (is_fold last) (λ t. (h.folded t).0 ∙ ns) (λ u. h.unfolded u) in
    bool_cases (needs_escape page.unicode x)
    (λ n.
    part_more page before x c (after_letters (escape_text x) c) cs slash false last (escape x) (follow_other last (escape x) refl refl) one refl
    (λ rest. cond_false slash _ _ unslashed ∙ char_is page before x cs c rest false _ true m refl n ∙ letters_are (escape_text x) c rest)
    (left page x (after_letters (escape_text x) c) false (escape x) cs more deep (record { same = refl; folded = λ e. absurd (cc); unfolded = λ e. refl; blank = λ e. absurd (cc) })))
    (λ n.
    let unblank = raw_no_tab page.unicode x n apart in
    part_more page before x c (moved_by c) cs slash false last (raw x) (follow_other last (raw x) refl unblank) (raw_stands page.unicode x one n) refl
    (λ rest. cond_false slash _ _ unslashed ∙ char_is page before x cs c rest false _ false m refl n)
    (left page x (moved_by c) false (raw x) cs more deep (record { same = refl; folded = λ e. absurd (cc); unfolded = λ e. refl; blank = λ e. absurd (cc (sym e ∙ unblank)) })))))

-- A double quoted value is written as a spelling of it.
pub quoted-spells : (page : Page) (c : Cursor) (value : List ℕ) → all_scalars value ≡ true
    → 0 < page.indentation → WritesSpelling (quoted_body page 32 value) c value
quoted-spells page c value good deep =
    let r = left page 32 c false (raw 32) value good deep (record { same = refl; folded = λ e. absurd (cc); unfolded = λ e. refl; blank = λ e. refl }) in
    record { parts = r.parts; behind = r.behind; right = r.right; spelled = r.text; meant = r.means }
