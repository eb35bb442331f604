-- A simple key in double quotes stays in its line.
use Rattle.std.proofs.Common.{◌≡◌, ℕ, suc, ◌+◌, Bool, true, false, not, ◌&&◌, ◌==◌, List, [], ◌∷◌, ◌++◌, length, refl, sym, ap, subst, ◌∙◌, inl, inr, arith, IsUtf8, length-append}
use Rattle.yaml_emit_laws.proofs.Shared.{cases_Bool, or_parts, ne_eqb, and_from, scalars-chars, all_scalars, chars, Cursor, letter, Layout, Rest, ◌▹◌, char, letters, Page, needs_escape, escape_text, escaped, quoted_char, quoted_body, in_front, is_one_line, StaysInLine, between_quotes}
use lib.Utf8.{scalar}
use Rattle.yaml_emit_layout.specs.Text.{is_break}
use Rattle.yaml_emit_laws.proofs.Bytes.{Calm, AreCalm}
use Rattle.yaml_emit_laws.proofs.Escapes.{escape_calm}
use Rattle.yaml_emit_laws.proofs.Back.{front_append, char_escaped, moved_by}
use Rattle.yaml_emit_layout.proofs.Sinks.{cond_true, cond_false}

line_more : (a b r : Bool) → (a && b) ≡ true → (b ≡ true → r ≡ true) → (a && r) ≡ true
line_more true b r h f = f h
line_more false b r h f = absurd (cc)

-- Two texts of one line make one line.
pub line_append : (xs ys : List ℕ) → is_one_line xs ≡ true → is_one_line ys ≡ true
    → is_one_line (xs ++ ys) ≡ true
line_append [] ys h k = k
line_append (x ∷ xs) ys h k = line_more (not (is_break x)) (is_one_line xs) (is_one_line (xs ++ ys)) h (λ e. line_append xs ys e k)

calm_inside : (x : ℕ) → Calm x → not (is_break x) ≡ true
calm_inside x a =
    let l = a.low in
    rw (ne_eqb x 10 a.no_feed, ne_eqb x 13 a.no_return, ne_eqb x 0x85 (λ e. omega arith), ne_eqb x 0x2028 (λ e. omega arith), ne_eqb x 0x2029 (λ e. omega arith)) refl

-- Calm bytes are in one line.
pub calm_line : (xs : List ℕ) → AreCalm xs → is_one_line xs ≡ true
calm_line [] a = refl
calm_line (x ∷ xs) (a, b) = and_from (not (is_break x)) (is_one_line xs) (calm_inside x a) (calm_line xs b)

-- a layout that writes letters, each in a column of its own
record Moves (a : Layout) (c : Cursor) : Type 0 where
  shown : List ℕ
  behind : Cursor
  written : (rest : Rest) → a c rest ≡ in_front shown (rest behind)
  inside : is_one_line shown ≡ true
  column : behind.column ≡ c.column + length shown

letters_move : (xs : List ℕ) (c : Cursor) → AreCalm xs → Moves (letters xs) c
unfolding letters in_front
letters_move [] c a = record { shown = []; behind = c; written = λ rest. refl; inside = refl; column = omega arith }
letters_move (x ∷ xs) c (a, b) =
    let r = letters_move xs (moved_by c) b in
    let k = r.column in
    let e : r.behind.column ≡ c.column + suc (length r.shown) = omega (arith, k) in
    record {
      shown = x ∷ r.shown;
      behind = r.behind;
      written = λ rest. ap (λ t. letter x ∷ t) (r.written rest);
      inside = and_from (not (is_break x)) (is_one_line r.shown) (calm_inside x a) r.inside;
      column = e;
    }

-- A character that is written as it is is no break.
pub raw_inside : (unicode : Bool) (x : ℕ) → needs_escape unicode x ≡ false → not (is_break x) ≡ true
unfolding needs_escape
raw_inside unicode x e =
    let a = (or_parts _ (x == 34) (or_parts _ (x == 92) e).0).0 in
    ap not (or_parts _ (is_break x) a).1

escaped_moves : (unicode : Bool) (x : ℕ) (c : Cursor) → scalar x ≡ true
    → Moves (escaped unicode x) c
unfolding in_front
escaped_moves unicode x c s =
    elim (cases_Bool (needs_escape unicode x)) [
      | inl e ↦ subst (λ (a : Layout). Moves a c) (sym (cond_true (needs_escape unicode x) (letters (escape_text x)) (char x) e)) (letters_move (escape_text x) c (escape_calm x s))
      | inr e ↦ subst (λ (a : Layout). Moves a c) (sym (cond_false (needs_escape unicode x) (letters (escape_text x)) (char x) e))
          (record { shown = x ∷ []; behind = moved_by c; written = λ rest. refl; inside = and_from (not (is_break x)) true (raw_inside unicode x e) refl; column = refl })
    ]

moves_on : (a b : Layout) (c : Cursor) (r : Moves a c) → Moves b r.behind → Moves (a ▹ b) c
moves_on a b c r s =
    let k = r.column in
    let l = s.column in
    let n : length (r.shown ++ s.shown) ≡ length r.shown + length s.shown = length-append r.shown s.shown in
    record {
      shown = r.shown ++ s.shown;
      behind = s.behind;
      written = λ rest. r.written (λ d. b d rest) ∙ ap (in_front r.shown) (s.written rest) ∙ sym (front_append r.shown s.shown (rest s.behind));
      inside = line_append r.shown s.shown r.inside s.inside;
      column = omega (arith, k, l, n);
    }

body_moves : (page : Page) (before : ℕ) (xs : List ℕ) (c : Cursor) → page.cuts ≡ false
    → all_scalars xs ≡ true → Moves (quoted_body page before xs) c
unfolding quoted_body in_front
body_moves page before [] c e g = record { shown = []; behind = c; written = λ rest. refl; inside = refl; column = omega arith }
body_moves page before (x ∷ xs) c e g =
    let one = subst (λ (a : Layout). Moves a c) (sym (char_escaped page before x xs e)) (escaped_moves page.unicode x c (first_scalar (scalar x) (all_scalars xs) g)) in
    moves_on (quoted_char page before x xs) (quoted_body page x xs) c one (body_moves page x xs one.behind e (rest_scalars (scalar x) (all_scalars xs) g))
  where
    first_scalar : (a b : Bool) → (a && b) ≡ true → a ≡ true
    first_scalar true b h = refl
    first_scalar false b h = absurd (cc)

    rest_scalars : (a b : Bool) → (a && b) ≡ true → b ≡ true
    rest_scalars true b h = h
    rest_scalars false b h = absurd (cc)

quote_moves : (c : Cursor) → Moves (char 34) c
unfolding in_front
quote_moves c = record { shown = 34 ∷ []; behind = moved_by c; written = λ rest. refl; inside = refl; column = refl }

pub keys_stay : (page : Page) (c : Cursor) (value : List ℕ) → IsUtf8 value → page.cuts ≡ false
    → StaysInLine (between_quotes page (chars value)) c
unfolding quote_moves
keys_stay page c value u e =
    let body = body_moves page 32 (chars value) (moved_by c) e (scalars-chars value u) in
    let inner = moves_on (quoted_body page 32 (chars value)) (char 34) (moved_by c) body (quote_moves body.behind) in
    let all = moves_on (char 34) (quoted_body page 32 (chars value) ▹ char 34) c (quote_moves c) inner in
    record { letters = all.shown; behind = all.behind; written = all.written; inside = all.inside; column = all.column }
