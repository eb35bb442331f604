-- Scalars in a text that goes on as a layout writes it.
use Rattle.std.specs.Prelude.{ℕ, ◌+◌, ◌<◌, ◌≤◌, ◌≡◌, Bool, true, false, List, length, Some, None, Ok, IsUtf8}
use Rattle.std.specs.Str.{chars}
use Rattle.yaml_emit_layout.specs.scan_types.Ascii as ascii
use Rattle.yaml_scan_history.specs.Written.{has_break, begins_lexeme}
use Rattle.yaml_scan_history.specs.Quoted.{single_quoted_at}
use Rattle.yaml_scan_history.specs.declared.kind.Kind.TheVariants as kinds
use Rattle.yaml_scan_history.specs.Words.{lexeme_at, kind_at}
use Rattle.yaml_emit_layout.specs.scan_model.declared.name.yaml_scalar_style_t.TheVariants.{YAML_PLAIN_SCALAR_STYLE, YAML_SINGLE_QUOTED_SCALAR_STYLE}
use Rattle.yaml_emit_layout.specs.scan_types.Tokens as tokens
use Rattle.yaml_emit_layout.specs.declared.LineBreak.{LineBreak}
use Rattle.yaml_emit_layout.specs.declared.Cursor.{Cursor}
use Rattle.yaml_emit_layout.specs.declared.Page.{Page}
use Rattle.yaml_emit_layout.specs.Layout.{Rest, ◌▹◌, gap, line, after_text}
use Rattle.yaml_emit_layout.specs.Scalars.{flow_body, plain}
use Rattle.yaml_emit_layout.specs.Style.{allowed}
use Rattle.yaml_emit_laws.specs.ReadBack.{between_single}
use Rattle.yaml_emit_laws.specs.Walk.{Left, bytes, first}
use Rattle.yaml_emit_laws.specs.PlainLaws.{IsReadPlain, may_be_plain}
use Rattle.yaml_emit_laws.specs.Stops.{white_of, stops_plain_at}

-- a cursor after text, with `kept` as it was
pub record IsBehind (e c : Cursor) : Type 0 where
  pub bare : e.bare ≡ false
  pub white : e.white ≡ false
  pub column : e.column ≡ 0 → ⊥
  pub kept : e.kept ≡ c.kept

-- These bytes are there, and after them the text goes on as `rest` does after text.
pub record GoesBehind (text : List ℕ) (p : ℕ) (c : Cursor) (rest : Rest) : Type 0 where
  pub own : List ℕ
  pub behind : Cursor
  pub fine : IsBehind behind c
  pub left : Left text (p + length own) (bytes (rest behind))

-- An empty plain scalar is left out; another one is after the space that is due.
abbrev pub PlainHasGap : Type 0
PlainHasGap = (page : Page) (flow : Bool) (value : List ℕ) → IsUtf8 value → 0 < length value
    → plain page flow (chars value)
    ≡ (gap ▹ (flow_body page false ascii.space (chars value) ▹ after_text))

-- What follows text stops a plain scalar.
abbrev pub StopsPlain : Bool → ℕ → Cursor → Rest → Type 0
StopsPlain flow level c rest = (e : Cursor) → IsBehind e c
    → stops_plain_at flow level None (bytes (rest e)) ≡ true

-- A plain scalar with the value, and the white that it takes.
pub record PlainStandsAt (flow : Bool) (level : ℕ) (value text : List ℕ) (p : ℕ) (c : Cursor)
    (rest : Rest) : Type 0 where
  pub goes : GoesBehind text p c rest
  pub says : IsReadPlain flow level value goes.own (white_of (bytes (rest goes.behind))) text p

-- Where a text goes on as what is written for a value that may be plain, and then with what stops
-- it, that scalar is there.
abbrev pub PlainStands : Type 0
PlainStands = (page : Page) (flow : Bool) (level : ℕ) (c : Cursor) (value : List ℕ) → IsUtf8 value
    → 0 < length value → may_be_plain page.unicode flow (chars value) ≡ true
    → 0 < page.indentation → level ≤ page.indentation → (rest : Rest)
    → StopsPlain flow level c rest → (text : List ℕ) (p : ℕ)
    → Left text p (bytes ((flow_body page false ascii.space (chars value) ▹ after_text) c rest))
    → PlainStandsAt flow level value text p c rest

-- What follows text doesn't begin with a single quote.
abbrev pub NoQuote : Cursor → Rest → Type 0
NoQuote c rest = (e : Cursor) → IsBehind e c → first (bytes (rest e)) ≡ ascii.apostrophe → ⊥

-- A single quoted scalar with the value.
pub record SingleStandsAt (value text : List ℕ) (p : ℕ) (c : Cursor) (rest : Rest) : Type 0 where
  pub goes : GoesBehind text p c rest
  pub begins : begins_lexeme text p ≡ true
  pub kind : (flow : Bool) → kind_at flow text p ≡ Some kinds.SingleQuoted
  pub read : single_quoted_at text p ≡ Ok (value, p + length goes.own)

-- Where a text goes on as what is written for a value between single quotes, that scalar is there.
abbrev pub SingleStands : Type 0
SingleStands = (page : Page) (c : Cursor) (value : List ℕ) → IsUtf8 value → 0 < page.indentation
    → (allowed page.unicode (chars value)).single ≡ true → (rest : Rest) → NoQuote c rest
    → (text : List ℕ) (p : ℕ) → Left text p (bytes (between_single page (chars value) c rest))
    → SingleStandsAt value text p c rest

-- Such scalars are words.
abbrev pub ScalarsAreWords : Type 0
ScalarsAreWords = (flow : Bool) (level : ℕ) (text : List ℕ) (p : ℕ) (value : List ℕ) →
    ((bytes gap : List ℕ) → IsReadPlain flow level value bytes gap text p
    → lexeme_at kinds.Plain flow level text p
    ≡ Ok record {
      body = tokens.scalar value YAML_PLAIN_SCALAR_STYLE;
      end = p + length bytes;
      reached = p + length bytes + length gap;
      broke = has_break gap;
    })
    × ((end : ℕ) → single_quoted_at text p ≡ Ok (value, end)
    → lexeme_at kinds.SingleQuoted flow level text p
    ≡ Ok record {
      body = tokens.scalar value YAML_SINGLE_QUOTED_SCALAR_STYLE;
      end = end;
      reached = end;
      broke = false;
    })

-- A cursor that is n columns right of a line's start, with spaces alone before it.
pub record IsLinedUp (e c : Cursor) (n : ℕ) : Type 0 where
  pub bare : e.bare ≡ true
  pub white : e.white ≡ true
  pub column : e.column ≡ n
  pub kept : e.kept ≡ c.kept

-- What comes after text on a line of n columns stops a plain scalar, if it does so at column n.
pub record LinesUp (flow : Bool) (level : ℕ) (b : LineBreak) (n : ℕ) (c : Cursor) (rest : Rest)
    : Type 0 where
  pub behind : Cursor
  pub fine : IsLinedUp behind c n
  pub same : stops_plain_at flow level None (bytes (line b n c rest))
      ≡ stops_plain_at flow level (Some n) (bytes (rest behind))

abbrev pub LinesStopPlain : Type 0
LinesStopPlain = (flow : Bool) (level : ℕ) (b : LineBreak) (n : ℕ) (c : Cursor) (rest : Rest)
    → c.bare ≡ false → LinesUp flow level b n c rest
