-- Layouts: what is written from a cursor on, with what follows at the cursor after it.
use Rattle.std.specs.Prelude.{ℕ, zero, suc, ◌+◌, ◌-◌, Bool, true, false, not, ◌&&◌, ◌||◌, ◌==◌, nat_lt, if◌then◌else◌, List, [], ◌∷◌}
use Rattle.yaml_scan_types.specs.Ascii as ascii
use Rattle.yaml_scan_types.specs.Points as points
use Rattle.yaml_emit_layout.specs.declared.cursor.Cursor.{Cursor}
use Rattle.yaml_emit_layout.specs.declared.settings.Encoding.{Encoding}
use Rattle.yaml_emit_layout.specs.declared.settings.Encoding.TheVariants.{Utf8, Utf16Le, Utf16Be}
use Rattle.yaml_emit_layout.specs.declared.settings.LineBreak.{LineBreak}
use Rattle.yaml_emit_layout.specs.declared.settings.LineBreak.TheVariants.{Lf, Cr, CrLf}
use Rattle.yaml_emit_layout.specs.Text.{Item, letter, deep, shown}

abbrev pub Rest : Type 0
Rest = Cursor → List Item

abbrev pub Layout : Type 0
Layout = Cursor → Rest → List Item

infixr 10 ◌▹◌
-- one after the other
abbrev pub ◌▹◌ : Layout → Layout → Layout
(a ▹ b) c rest = a c (λ d. b d rest)

-- nothing is written
abbrev pub stay : Layout
stay c rest = rest c

-- by a test of the cursor
abbrev pub choose : (Cursor → Bool) → Layout → Layout → Layout
choose test a b c rest = if test c then a c rest else b c rest

abbrev pub when : Bool → Layout → Layout
when true a = a
when false a = stay

-- a character
abbrev pub char : ℕ → Layout
char x c rest = letter x ∷ rest
    (record { column = c.column + 1; white = false; bare = false; kept = c.kept })

unfoldable pub letters : List ℕ → Layout
letters [] = stay
letters (x ∷ xs) = char x ▹ letters xs

-- a space that parts
abbrev pub blank : Layout
blank c rest = letter ascii.space ∷ rest
    (record { column = c.column + 1; white = true; bare = c.bare; kept = c.kept })

unfoldable pub blanks : ℕ → Layout
blanks zero = stay
blanks (suc n) = blank ▹ blanks n

-- a character that ends a line
abbrev pub break : ℕ → Layout
break x c rest = letter x ∷ rest (record { column = 0; white = true; bare = true; kept = c.kept })

-- the break that is set
abbrev pub new_line : LineBreak → Layout
new_line Lf = break ascii.line_feed
new_line Cr = break ascii.carriage_return
new_line CrLf = char ascii.carriage_return ▹ break ascii.line_feed

abbrev pub is_white : Cursor → Bool
is_white c = c.white

-- a space, unless white space was last
abbrev pub gap : Layout
gap = choose is_white stay blank

-- a text after a space where one is due
abbrev pub word : List ℕ → Layout
word t = gap ▹ letters t

-- a block indicator leaves the line bare
abbrev pub indicator : ℕ → Layout
indicator x = gap ▹ (λ c rest. letter x ∷ rest
    (record { column = c.column + 1; white = false; bare = c.bare; kept = c.kept }))

-- what opens a flow collection needs no space after it
abbrev pub opener : ℕ → Layout
opener x = gap ▹ (λ c rest. letter x ∷ rest
    (record { column = c.column + 1; white = true; bare = false; kept = c.kept }))

abbrev pub must_break : ℕ → Cursor → Bool
must_break n c = not c.bare || nat_lt n c.column || (c.column == n && not c.white)

abbrev pub indent_to : ℕ → Layout
indent_to n c = blanks (n - c.column) c

-- a break and n spaces
abbrev pub fresh : LineBreak → ℕ → Layout
fresh b n = new_line b ▹ blanks n

-- a line that is indented by n: a break, unless the line is bare up to there, and then spaces
unfoldable pub line : LineBreak → ℕ → Layout
line b n = choose (must_break n) (new_line b) stay ▹ indent_to n

abbrev pub is_past : ℕ → Cursor → Bool
is_past width c = nat_lt width c.column

-- past the width a line comes
abbrev pub wrap : ℕ → LineBreak → ℕ → Layout
wrap width b n = choose (is_past width) (line b n) stay

-- whether the document's last block scalar keeps its breaks
abbrev pub keep : Bool → Layout
keep b c rest = rest (record { column = c.column; white = c.white; bare = c.bare; kept = b })

-- after a scalar in one line or in quotes
abbrev pub after_text : Layout
after_text c rest = rest (record { column = c.column; white = false; bare = false; kept = c.kept })

-- after a block scalar
abbrev pub after_block : Layout
after_block c rest = rest (record { column = c.column; white = true; bare = c.bare; kept = c.kept })

-- an indentation passes 2,147,483,647 columns
abbrev pub too_deep : Layout
too_deep c rest = deep ∷ rest c

-- the byte order mark, in UTF-16 alone; it takes no column
abbrev pub order_mark : Encoding → Layout
order_mark Utf8 c rest = rest c
order_mark Utf16Le c rest = letter points.byte_order_mark ∷ rest c
order_mark Utf16Be c rest = letter points.byte_order_mark ∷ rest c

abbrev pub start : Cursor
start = record { column = 0; white = true; bare = true; kept = false }

abbrev pub nothing_more : Rest
nothing_more c = []

-- the whole text
abbrev pub written : Layout → List Item
written a = a start nothing_more

-- its characters
abbrev pub text_of : Layout → List ℕ
text_of a = shown (written a)
