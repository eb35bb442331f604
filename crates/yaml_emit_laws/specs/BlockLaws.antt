-- What is written for a block scalar is read back.
use Rattle.std.specs.Prelude.{ℕ, ◌+◌, ◌-◌, ◌<◌, ◌≤◌, ◌≡◌, Bool, true, false, if◌then◌else◌, List, ◌∷◌, ◌++◌, length, Option, Some, None, Ok, IsUtf8, encode_utf8_all}
use Rattle.std.specs.Str.{chars}
use Rattle.yaml_emit_layout.specs.scan_types.Ascii as ascii
use Rattle.yaml_emit_layout.specs.scan_types.Marks.{column_at}
use Rattle.yaml_scan_history.specs.Written.{HasAt}
use Rattle.yaml_emit_layout.specs.scan_model.declared.name.yaml_scalar_style_t.{yaml_scalar_style_t}
use Rattle.yaml_emit_layout.specs.scan_model.declared.name.yaml_scalar_style_t.TheVariants as styles
use Rattle.yaml_emit_layout.specs.scan_types.Tokens.{scalar}
use Rattle.yaml_scan_history.specs.Block.{block_at}
use Rattle.yaml_scan_history.specs.declared.kind.Kind.{Kind}
use Rattle.yaml_scan_history.specs.declared.kind.Kind.TheVariants as kinds
use Rattle.yaml_scan_history.specs.Words.{kind_at, lexeme_at}
use Rattle.yaml_emit_layout.specs.declared.Cursor.{Cursor}
use Rattle.yaml_emit_layout.specs.declared.page.Page.{Page}
use Rattle.yaml_emit_layout.specs.declared.Style.{Style}
use Rattle.yaml_emit_layout.specs.declared.Style.TheVariants as style
use Rattle.yaml_emit_layout.specs.declared.page.Chomp.{Chomp}
use Rattle.yaml_emit_layout.specs.declared.page.Chomp.TheVariants as chomping
use Rattle.yaml_emit_layout.specs.Layout.{Layout, Rest, ◌▹◌, char, gap, new_line, line, after_block}
use Rattle.yaml_emit_layout.specs.Scalars.{digit_mark, chomp_mark, chomp, block_body, ends_in_break, scalar_text}
use Rattle.yaml_emit_layout.specs.Style.{allowed}
use Rattle.yaml_emit_layout.specs.Spelling.{in_front}
use Rattle.yaml_emit_layout.specs.declared.level.NodePosition.{NodePosition}
use Rattle.yaml_emit_layout.specs.Content.{Scalar}
use Rattle.yaml_emit_layout.specs.Nodes.{Context, is_simple_part, deeper, style_of, page_at}
use Rattle.yaml_emit_laws.specs.BlockLines.{closing, NoWhite, StandsLeft}

-- a block scalar from its indicator on, without the space before it
abbrev pub from_indicator : Page → ℕ → Bool → List ℕ → Layout
from_indicator page digit folded value = char (if folded then ascii.greater else ascii.bar)
    ▹ (digit_mark digit value ▹ (chomp_mark (chomp true true value)
    ▹ (new_line page.line_break
    ▹ (block_body page folded true ascii.line_feed value ▹ after_block))))

abbrev pub is_keep : Chomp → Bool
is_keep chomping.Strip = false
is_keep chomping.Clip = false
is_keep chomping.Keep = true

abbrev pub kind_of : Bool → Kind
kind_of folded = if folded then kinds.Folded else kinds.Literal

abbrev pub read_style : Bool → yaml_scalar_style_t
read_style folded = if folded then styles.YAML_FOLDED_SCALAR_STYLE
    else styles.YAML_LITERAL_SCALAR_STYLE

-- A block scalar is there, which has the value: its end is after its last break, at the start of a line, and the place that
-- is reached is where it stopped, after that many spaces.
pub record BlockStands (folded : Bool) (level : ℕ) (text : List ℕ) (p : ℕ) (value : List ℕ)
    (end k : ℕ) : Type 0 where
  pub block : block_at level text p ≡ Ok record { value = value; end = end; place = end + k }
  pub kind : kind_at false text p ≡ Some (kind_of folded)
  pub word : lexeme_at (kind_of folded) false level text p ≡ Ok record {
    body = scalar value (read_style folded);
    end = end;
    reached = end + k;
    broke = false;
  }
  pub column : column_at text (end + k) ≡ k

-- From a cursor on, a layout writes these characters, the indicator first, whatever follows. Where their bytes are, and after
-- them the break of the next line where the value ends in none, before a text that is left of the page's indentation: there
-- the value is read, up to the spaces that are before that text.
pub record BlockReads (page : Page) (digit : ℕ) (folded : Bool) (level : ℕ) (c : Cursor)
    (value : List ℕ) : Type 0 where
  pub letters : List ℕ
  pub inside : List ℕ
  pub begins : letters ≡ (if folded then ascii.greater else ascii.bar) ∷ inside
  pub behind : Cursor
  pub written : (rest : Rest) → from_indicator page digit folded (chars value) c rest
      ≡ in_front letters (rest behind)
  pub read : (text : List ℕ) (p k : ℕ)
      → HasAt text p (encode_utf8_all (letters ++ closing page.line_break
      (ends_in_break (chars value))))
      → StandsLeft text (p + length (encode_utf8_all (letters ++ closing page.line_break
      (ends_in_break (chars value))))) page.indentation k
      → BlockStands folded level text p value (p + length (encode_utf8_all (letters ++ closing
      page.line_break (ends_in_break (chars value))))) k
  -- a last break leaves the line bare; else the next line begins with one
  pub at_start : ends_in_break (chars value) ≡ true
      → behind ≡ record {
        column = 0;
        white = true;
        bare = true;
        kept = is_keep (chomp true true (chars value));
      }
  pub in_line : ends_in_break (chars value) ≡ false → behind.bare ≡ false
  pub white : behind.white ≡ true
  pub kept : behind.kept ≡ is_keep (chomp true true (chars value))

-- What is written for a value in literal and in folded style, where the value allows them, is read as the value, on every page, at
-- every column, with every indent of one digit that leads from the level to the page's indentation.
abbrev pub BlockIsReadBack : Type 0
BlockIsReadBack = (page : Page) (digit : ℕ) (folded : Bool) (level : ℕ) (c : Cursor)
    (value : List ℕ) → IsUtf8 value → 0 < digit → digit < 10
    → (level - 1) + digit ≡ page.indentation
    → (allowed page.unicode (chars value)).block ≡ true
    → BlockReads page digit folded level c value

-- From a cursor on, a block scalar and the start of a line after it, which is indented by m, are written so; where their bytes
-- are, before a text or the end, the value is read, and the place that is reached is after these spaces.
pub record BlockAndLineRead (page : Page) (digit : ℕ) (folded : Bool) (level : ℕ) (c : Cursor)
    (value : List ℕ) (m : ℕ) : Type 0 where
  pub letters : List ℕ
  pub inside : List ℕ
  pub begins : letters ≡ (if folded then ascii.greater else ascii.bar) ∷ inside
  pub written : (rest : Rest)
      → (from_indicator page digit folded (chars value) ▹ line page.line_break m) c rest
      ≡ in_front letters (rest (record {
        column = m;
        white = true;
        bare = true;
        kept = is_keep (chomp true true (chars value));
      }))
  pub read : (text : List ℕ) (p end : ℕ) → HasAt text p (encode_utf8_all letters)
      → NoWhite text (p + length (encode_utf8_all letters))
      → end + m ≡ p + length (encode_utf8_all letters)
      → BlockStands folded level text p value end m
  pub longer : m ≤ length (encode_utf8_all letters)

-- So it is before each line that is indented less than the scalar.
abbrev pub BlockBeforeLine : Type 0
BlockBeforeLine = (page : Page) (digit : ℕ) (folded : Bool) (level : ℕ) (c : Cursor)
    (value : List ℕ) (m : ℕ) → IsUtf8 value → 0 < digit → digit < 10
    → (level - 1) + digit ≡ page.indentation
    → (allowed page.unicode (chars value)).block ≡ true → m < page.indentation
    → BlockAndLineRead page digit folded level c value m

-- ---- at a position of a layout

-- the margin of the level that surrounds a position, 0 round a root
abbrev pub margin_round : Option ℕ → ℕ
margin_round None = 0
margin_round (Some n) = n + 1

abbrev pub block_style : Bool → Style
block_style folded = if folded then style.Folded else style.Literal

-- A scalar for which a layout chooses literal or folded style is neither in brackets nor a simple key.
pub record BlockIsChosen (p : Context) (at : NodePosition) (x : Scalar) : Type 0 where
  pub outside : at.flow ≡ false
  pub whole : is_simple_part at.part ≡ false
  pub pretty : p.settings.canonical ≡ false
  pub allows : (allowed p.settings.unicode (chars x.value)).block ≡ true

-- Where a layout with an indent of one digit chooses one of the two styles, the scalar and the next line's start, left of it, are
-- read back in the level that surrounds the position.
abbrev pub BlockAtPosition : Type 0
BlockAtPosition = (p : Context) (at : NodePosition) (x : Scalar) (folded : Bool) (c : Cursor)
    (m : ℕ)
    → IsUtf8 x.value → 0 < p.settings.indent → p.settings.indent < 10
    → style_of p at x ≡ block_style folded → m < deeper p.settings at.around
    → BlockIsChosen p at x × BlockAndLineRead (page_at p.settings at) p.settings.indent folded
    (margin_round at.around) c x.value m

-- In both styles a scalar is laid out so, after the space that is due before it.
pub record BlockIsLaidOut : Type 0 where
  pub literal : (page : Page) (digit : ℕ) (flow : Bool) (value : List ℕ)
      → scalar_text page digit flow style.Literal value
      ≡ (gap ▹ from_indicator page digit false value)
  pub folded : (page : Page) (digit : ℕ) (flow : Bool) (value : List ℕ)
      → scalar_text page digit flow style.Folded value
      ≡ (gap ▹ from_indicator page digit true value)
