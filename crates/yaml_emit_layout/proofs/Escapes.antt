-- Escapes of double quoted text.
use Rattle.std.proofs.Common.{◌≡◌, ◌≢◌, ℕ, ◌<◌, ◌≤◌, List, [], ◌∷◌, Bool, true, false, cond, ◌∙◌, ap, arith}
use Rattle.std.specs.Prelude.{if◌then◌else◌}
use Rattle.yaml_emit_layout.specs.declared.page.Page.{Page}
use Rattle.yaml_emit_layout.specs.declared.cursor.Cursor.{Cursor}
use Rattle.yaml_emit_layout.specs.Layout.{Rest, choose, char, letters, is_past}
use Rattle.yaml_emit_layout.specs.Hex.{hex_2}
use Rattle.yaml_emit_layout.specs.Quoted.{escape_text, escape_letter, hex_4, hex_8, needs_escape, may_fold, fold, escaped, quoted_char}

-- An escape with a letter of its own is a backslash and that.
pub escape_by_letter : (c : ℕ) → escape_letter c ≢ 0 → escape_text c ≡ 92 ∷ escape_letter c ∷ []
unfolding escape_text
escape_by_letter c n = grind arith

-- An escape below 256 without a letter of its own has two digits.
pub escape_by_2 : (c : ℕ) → escape_letter c ≡ 0 → c < 256 → escape_text c ≡ 92 ∷ 120 ∷ hex_2 c
unfolding escape_text
escape_by_2 c n h = grind arith

-- An escape below 65,536 without a letter of its own has four digits.
pub escape_by_4 : (c : ℕ) → escape_letter c ≡ 0 → 256 ≤ c → c < 65536
    → escape_text c ≡ 92 ∷ 117 ∷ hex_4 c
unfolding escape_text
escape_by_4 c n l h = grind arith

-- Any other escape without a letter of its own has eight digits.
pub escape_by_8 : (c : ℕ) → escape_letter c ≡ 0 → 256 ≤ c → 65536 ≤ c
    → escape_text c ≡ 92 ∷ 85 ∷ hex_8 c
unfolding escape_text
escape_by_8 c n l h = grind arith

-- what a character is written as, by whether it may be folded, the width is passed, and an escape is needed
pub char_is : (page : Page) (before x : ℕ) (cs : List ℕ) (c : Cursor) (rest : Rest) (m p n : Bool)
    → may_fold page before x cs ≡ m → is_past page.width c ≡ p → needs_escape page.unicode x ≡ n
    → quoted_char page before x cs c rest
    ≡ (if m then if p then fold page cs c rest else char x c rest
    else (if n then letters (escape_text x) else char x) c rest)
unfolding quoted_char
char_is page before x cs c rest true p n e f g =
    ap (λ v. (cond v (choose (is_past page.width) (fold page cs) (char x)) (escaped page.unicode x)) c rest) e ∙ ap (λ v. cond v (fold page cs c rest) (char x c rest)) f
char_is page before x cs c rest false p n e f g =
    ap (λ v. (cond v (choose (is_past page.width) (fold page cs) (char x)) (escaped page.unicode x)) c rest) e ∙ ap (λ v. (cond v (letters (escape_text x)) (char x)) c rest) g
