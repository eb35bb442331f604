-- Runs of a value that are put as they are.
use Rattle.std.specs.Prelude.{◌≡◌, ℕ, ◌+◌, ◌≤◌, Bool, true, false, not, ◌&&◌, ◌||◌, ◌==◌, nat_le, bit_and, List, [], ◌∷◌, ◌++◌, take}
use Rattle.std.specs.Str.{chars, IsAscii, IsCharBoundary}
use Rattle.yaml_scan_types.specs.Ascii as ascii
use Rattle.yaml_scan_runs.specs.Runs.{is_stop}
use Rattle.yaml_emit_layout.specs.declared.cursor.Cursor.{Cursor}
use Rattle.yaml_emit_layout.specs.declared.page.Style.{Style}
use Rattle.yaml_emit_layout.specs.declared.page.Style.TheVariants as style
use Rattle.yaml_emit_layout.specs.Text.{is_break}
use Rattle.yaml_emit_layout.specs.Layout.{Layout, Rest, ◌▹◌, letters}
use Rattle.yaml_emit_layout.specs.Quoted.{needs_escape}
use Rattle.yaml_emit_layout.specs.Runs.{all_pass}
use Rattle.yaml_emit_layout.specs.Style.{last_or}
use Rattle.yaml_emit_scalars.specs.Classes.{is_of}
use Rattle.yaml_emit_scalars.specs.declared.run.Body.{Body}
use Rattle.yaml_emit_scalars.specs.declared.run.Body.TheVariants.{Open, Single, Double, Ascii}

abbrev pub quoted_in : Bool → Body
quoted_in true = Double
quoted_in false = Ascii

abbrev pub flow_in : Bool → Body
flow_in true = Single
flow_in false = Open

-- the classes of bytes that end a run of ASCII
abbrev pub stops : Body → ℕ
stops Open = 0x016
stops Single = 0x036
stops Double = 0x01E
stops Ascii = 0x01E

-- a byte ends a run: with DEL and EF, between double quotes
abbrev pub ends : Body → ℕ → Bool
ends Open b = is_stop [] b
ends Single b = is_stop (ascii.apostrophe ∷ []) b
ends Double b = is_stop (ascii.quote ∷ ascii.backslash ∷ ascii.delete ∷ 0xEF ∷ []) b
ends Ascii b = is_of 0x01E b

-- or it is a space
abbrev pub ends_word : Body → ℕ → Bool
ends_word Open b = is_stop (ascii.space ∷ []) b
ends_word Single b = is_stop (ascii.apostrophe ∷ ascii.space ∷ []) b
ends_word Double b = is_stop
    (ascii.quote ∷ ascii.backslash ∷ ascii.delete ∷ 0xEF ∷ ascii.space ∷ []) b
ends_word Ascii b = is_of 0x01F b

-- a character is there as it is
abbrev pub stands : Body → ℕ → Bool
stands Open c = not (is_break c)
stands Single c = not (is_break c) && not (c == ascii.apostrophe)
stands Double c = not (needs_escape true c)
stands Ascii c = not (needs_escape false c)

-- a character of a run at that column: it is as it is, and is no space past the width where lines may be cut
abbrev pub goes_on : Body → Bool → ℕ → ℕ → ℕ → Bool
goes_on body cuts width column c = stands body c
    && (not (c == ascii.space) || (not cuts || nat_le column width))

-- a text begins with a run of that many bytes, from that column on; where it isn't wide it is ASCII
pub record Begins (body : Body) (cuts : Bool) (width column : ℕ) (text : List ℕ) (count : ℕ)
    (wide : Bool) : Type 0 where
  pub whole : IsCharBoundary text count
  pub pass : all_pass (goes_on body cuts width) column (chars (take count text)) ≡ true
  pub narrow : wide ≡ false → IsAscii (take count text)

-- a text in ASCII is a run from whatever column on at which it may begin after a space, `! ` and a quote
pub record IsRun (body : Body) (cuts : Bool) (width column : ℕ) (text : List ℕ) : Type 0 where
  pub ascii : IsAscii text
  pub pass : (k : ℕ) → k ≤ column + 8 → all_pass (goes_on body cuts width) k text ≡ true

-- a text of that many bytes, of these classes, is put as one word where that many columns are left: none of its bytes ends a run,
-- and no space in it may be past the width, wherever it begins after a space, `! ` and a quote
abbrev pub is_word : Body → Bool → ℕ → ℕ → ℕ → Bool
is_word body cuts classes count left = bit_and classes (stops body) == 0
    && (not cuts || (bit_and classes 0x001 == 0 || nat_le (count + 8) left))

-- a scalar of that style is: none that is a block
abbrev pub puts_word : Style → Bool → Bool → ℕ → ℕ → ℕ → Bool
puts_word style.Plain unicode cuts classes count left = is_word Open cuts classes count left
puts_word style.Single unicode cuts classes count left = is_word Single cuts classes count left
puts_word style.Double unicode cuts classes count left =
    is_word (quoted_in unicode) cuts classes count left
puts_word style.Literal unicode cuts classes count left = false
puts_word style.Folded unicode cuts classes count left = false

-- after a character, what is written for a value has each run of it as it is
abbrev pub KeepsRuns : (ℕ → ℕ → Bool) → (ℕ → List ℕ → Layout) → ℕ → Type 0
KeepsRuns test walk before = (bs xs : List ℕ) (c : Cursor) (rest : Rest)
    → all_pass test c.column bs ≡ true
    → walk before (bs ++ xs) c rest ≡ (letters bs ▹ walk (last_or before bs) xs) c rest

-- the quote on both sides of a value
abbrev pub quote_of : Body → ℕ
quote_of Open = ascii.quote
quote_of Single = ascii.apostrophe
quote_of Double = ascii.quote
quote_of Ascii = ascii.quote
