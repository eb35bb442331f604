-- Double quoted text: escapes, and folds at the width.
use Rattle.std.specs.Prelude.{ℕ, ◌/◌, ◌%◌, Bool, true, false, not, ◌==◌, ◌&&◌, ◌||◌, nat_lt, nat_le, if◌then◌else◌, List, [], ◌∷◌, ◌++◌}
use Rattle.yaml_scan_types.specs.Ascii as ascii
use Rattle.yaml_scan_types.specs.Points as points
use Rattle.yaml_emit_layout.specs.declared.page.Page.{Page}
use Rattle.yaml_emit_layout.specs.Text.{is_break}
use Rattle.yaml_emit_layout.specs.Hex.{hex_2}
use Rattle.yaml_emit_layout.specs.Layout.{Layout, ◌▹◌, stay, choose, when, char, letters, blanks, new_line, gap, is_past}

-- 0A, 20 to 7E, A0 to D7FF, E000 to FFFD without FEFF, 10000 to 10FFFF
abbrev pub is_printable : ℕ → Bool
is_printable c =
    c == ascii.line_feed || (nat_le ascii.space c && nat_le c ascii.tilde)
    || (nat_le points.no_break_space c && nat_le c 0xD7FF)
    || (nat_le 0xE000 c && nat_le c 0xFFFD && not (c == points.byte_order_mark))
    || (nat_le 0x1_0000 c && nat_le c 0x10_FFFF)

-- what is not printable, or not ASCII with unicode off, a break, `"` or `\`
unfoldable pub needs_escape : Bool → ℕ → Bool
needs_escape unicode c =
    not (is_printable c) || (not unicode && nat_le 0x80 c) || is_break c || c == ascii.quote
    || c == ascii.backslash

-- the letter that spells a character after a backslash, or 0
unfoldable pub escape_letter : ℕ → ℕ
escape_letter c =
    if c == ascii.null then ascii.digit_zero
    else if c == ascii.bell then ascii.small_a
    else if c == ascii.backspace then ascii.small_b
    else if c == ascii.tab then ascii.small_t
    else if c == ascii.line_feed then ascii.small_n
    else if c == ascii.vertical_tab then ascii.small_v
    else if c == ascii.form_feed then ascii.small_f
    else if c == ascii.carriage_return then ascii.small_r
    else if c == ascii.escape then ascii.small_e
    else if c == ascii.quote then ascii.quote
    else if c == ascii.backslash then ascii.backslash
    else if c == points.next_line then ascii.capital_n
    else if c == points.no_break_space then ascii.underscore
    else if c == points.line_separator then ascii.capital_l
    else if c == points.paragraph_separator then ascii.capital_p
    else 0

abbrev pub hex_4 : ℕ → List ℕ
hex_4 n = hex_2 (n / 0x100) ++ hex_2 (n % 0x100)

abbrev pub hex_8 : ℕ → List ℕ
hex_8 n = hex_4 (n / 0x1_0000) ++ hex_4 (n % 0x1_0000)

-- a backslash, and a letter, or `x`, `u` or `U` and a number
unfoldable pub escape_text : ℕ → List ℕ
escape_text c =
    if not (escape_letter c == 0) then ascii.backslash ∷ escape_letter c ∷ []
    else if nat_lt c 0x100 then ascii.backslash ∷ ascii.small_x ∷ hex_2 c
    else if nat_lt c 0x1_0000 then ascii.backslash ∷ ascii.small_u ∷ hex_4 c
    else ascii.backslash ∷ ascii.capital_u ∷ hex_8 c

-- the first character, 0 at the end
abbrev pub first : List ℕ → ℕ
first [] = 0
first (c ∷ cs) = c

abbrev pub is_empty : List ℕ → Bool
is_empty [] = true
is_empty (c ∷ cs) = false

-- a space that may be folded: no space is before it, and it is neither first nor last
abbrev pub may_fold : Page → ℕ → ℕ → List ℕ → Bool
may_fold page before x rest = page.cuts
    && (x == ascii.space && (not (before == ascii.space) && not (is_empty rest)))

-- past the width, what is to be folded becomes a break and the indentation, and a backslash where a space follows
abbrev pub fold : Page → List ℕ → Layout
fold page rest = new_line page.line_break
    ▹ (blanks page.indentation ▹ when (first rest == ascii.space) (char ascii.backslash))

abbrev pub escaped : Bool → ℕ → Layout
escaped unicode x = if needs_escape unicode x then letters (escape_text x) else char x

unfoldable pub quoted_char : Page → ℕ → ℕ → List ℕ → Layout
quoted_char page before x rest = if may_fold page before x rest then choose (is_past page.width)
    (fold page rest) (char x) else escaped page.unicode x

-- by the character before; a space as that means the start, since no space is folded after a space
unfoldable pub quoted_body : Page → ℕ → List ℕ → Layout
quoted_body page before [] = stay
quoted_body page before (x ∷ xs) = quoted_char page before x xs ▹ quoted_body page x xs

abbrev pub quoted_text : Page → List ℕ → Layout
quoted_text page value = gap
    ▹ (char ascii.quote ▹ (quoted_body page ascii.space value ▹ char ascii.quote))
