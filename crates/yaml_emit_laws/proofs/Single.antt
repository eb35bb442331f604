-- What an emitter writes between single quotes in one line, or cuts at spaces, is read back.
use Rattle.std.proofs.Common.{◌≡◌, ℕ, ◌-◌, Bool, true, false, not, ◌&&◌, ◌||◌, ◌==◌, nat_le, List, [], ◌∷◌, ◌++◌, replicate, refl, ap, ◌∙◌, arith, encode_utf8_all}
use Rattle.yaml_emit_laws.proofs.Shared.{encode_ascii, encodes-append, or_parts, Cursor, LineBreak, Rest, blanks, line, indent_to, Page, is_printable, cuts_at, in_front, break_text, QuotedPart, is_raw_blank, is_fold, is_turn, may_follow}
use Rattle.yaml_emit_layout.specs.Text.{is_break}
use Rattle.yaml_emit_layout.specs.Quoted.{first}
use Rattle.yaml_emit_layout.specs.Style.{is_special}
use Rattle.yaml_emit_laws.proofs.Escapes.{low_encodes}
use Rattle.yaml_emit_laws.proofs.Back.{front_append}
use Rattle.yaml_emit_layout.proofs.Sinks.{cond_true}
pub use Rattle.yaml_emit_layout.proofs.Bools.{bool_cases}
pub use Rattle.yaml_emit_layout.proofs.Spelled.{line_start, after_blanks, blanks_are, new_line_is}

-- ---- layouts that write characters

-- Nothing less is the same.
pub from_start : (n : ℕ) → n - 0 ≡ n
from_start n = omega arith

indent_is : (n : ℕ) (c : Cursor) (rest : Rest)
    → indent_to n (line_start c) rest
    ≡ in_front (replicate n 32) (rest (after_blanks n (line_start c)))
indent_is n c rest = ap (λ k. blanks k (line_start c) rest) (from_start n) ∙ blanks_are n (line_start c) rest

-- a premise that is false
pub broken : (a b d : Bool) → a ≡ false → (not a || b || d) ≡ true
broken false b d e = refl
broken true b d e = absurd (cc)

-- after a character a line begins with a break
pub line_is : (b : LineBreak) (n : ℕ) (c : Cursor) (rest : Rest) → c.bare ≡ false
    → line b n c rest ≡ in_front (break_text b ++ replicate n 32)
    (rest (after_blanks n (line_start c)))
unfolding line
line_is b n c rest e = grind (arith, broken, cond_true, new_line_is, indent_is, front_append)

-- ---- characters

-- what a cut needs
pub record CutNeeds (page : Page) (before x : ℕ) (xs : List ℕ) : Type 0 where
  pub cuts : page.cuts ≡ true
  pub space : x ≡ 32
  pub behind : (before == 32) ≡ false
  pub next : (first xs == 32) ≡ false

-- what is where a line is cut
pub cut_needs : (page : Page) (before x : ℕ) (xs : List ℕ) → cuts_at page before x xs ≡ true
    → CutNeeds page before x xs
cut_needs page before x xs e = grind arith

-- A fold may follow what is neither a blank nor turns the line.
pub fold_follows : (last q : QuotedPart) → is_fold q ≡ true → is_raw_blank q ≡ false
    → is_raw_blank last ≡ false → is_turn last ≡ false → may_follow last q ≡ true
fold_follows last q a b d e = rw (a, b, d, e) refl

-- What is neither a fold nor a blank may follow anything.
pub other_follows : (last q : QuotedPart) → is_fold q ≡ false → is_raw_blank q ≡ false
    → may_follow last q ≡ true
other_follows last q a b = rw (a, b) refl

-- After what turns no line anything but a fold may follow.
pub blank_follows : (last q : QuotedPart) → is_fold q ≡ false → is_turn last ≡ false
    → may_follow last q ≡ true
blank_follows last q a e = grind arith

-- Where a disjunction with a negation is false, what is negated holds.
pub special_left : (p b : Bool) → (not p || b) ≡ false → p ≡ true
special_left true b e = refl
special_left false b e = absurd (cc)

-- A character that is not special is printable.
pub shown_first : (unicode : Bool) (before x next : ℕ) → is_special unicode before x next ≡ false
    → is_printable x ≡ true
shown_first unicode before x next e =
    let a = (or_parts _ (x == 32 && is_break next) e).0 in
    special_left (is_printable x) (not unicode && nat_le 0x80 x) a

-- the bytes of a text between single quotes
pub between : (xs bs : List ℕ) → encode_utf8_all xs ≡ bs
    → encode_utf8_all (39 ∷ (xs ++ 39 ∷ [])) ≡ 39 ∷ (bs ++ 39 ∷ [])
between xs bs e =
    let one : encode_utf8_all (39 ∷ []) ≡ 39 ∷ [] = low_encodes (39 ∷ []) (omega arith, tt) in
    rw (encode_ascii 39 (omega arith), encodes-append xs (39 ∷ []), e) (ap (λ t. 39 ∷ (bs ++ t)) one)
