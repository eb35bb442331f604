-- A walk at a cursor of a layout, outside of brackets.
use Rattle.std.specs.Prelude.{◌≡◌, ◌<◌, ◌≤◌, ◌+◌, ℕ, ◌==◌, Bool, true, false, not, if◌then◌else◌, List, [], ◌∷◌, length, None, IsUtf8}
use Rattle.std.specs.Str.{chars}
use Rattle.yaml_emit_layout.specs.scan_types.Ascii as ascii
use Rattle.yaml_emit_layout.specs.scan_model.declared.name.yaml_scalar_style_t.TheVariants.{YAML_PLAIN_SCALAR_STYLE, YAML_SINGLE_QUOTED_SCALAR_STYLE}
use Rattle.yaml_emit_layout.specs.scan_types.Tokens as tokens
use Rattle.yaml_emit_layout.specs.declared.Page.{Page}
use Rattle.yaml_emit_layout.specs.Scalars.{plain, single_quoted}
use Rattle.yaml_emit_layout.specs.Style.{allowed}
use Rattle.yaml_scan_history.specs.declared.lexeme.Opens.{Opens}
use Rattle.yaml_scan_history.specs.declared.lexeme.Opens.TheVariants as opening
use Rattle.yaml_scan_laws.specs.TextFronts.{Rises}
use Rattle.yaml_scan_laws.specs.Tokens.{start_bodies}
use Rattle.yaml_emit_laws.specs.PlainLaws.{may_be_plain}
use Rattle.yaml_emit_layout.specs.scan_model.declared.name.yaml_encoding_t.{yaml_encoding_t}
use Rattle.yaml_emit_layout.specs.scan_types.Tokens.{TokenBody}
use Rattle.yaml_emit_layout.specs.scan_types.Marks.{column_at, line_at}
use Rattle.yaml_scan_history.specs.History.{indent, opened, start_of}
use Rattle.yaml_emit_layout.specs.declared.Cursor.{Cursor}
use Rattle.yaml_emit_layout.specs.declared.LineBreak.{LineBreak}
use Rattle.yaml_emit_layout.specs.Layout.{Layout, Rest, line, indicator}
use Rattle.yaml_emit_laws.specs.Walk.{Left, bytes, first}
use Rattle.yaml_scan_laws.specs.Walks.{WalkState, WalkReads}
use Rattle.yaml_emit_laws.specs.Stops.{stops_plain_at, begins_white, is_gap_byte}

-- The lexemes up to a cursor, with levels `ls` and beside them `more`, give T. Where the line is bare, a key may begin, and the cursor's
-- column is the text's. The line from which keys may be looked for is that of the place or an earlier one.
pub record NodeStage (x : yaml_encoding_t) (text : List ℕ) (c : Cursor) (o : WalkState)
    (ls more : List
    ℕ)
    (T : List TokenBody → List TokenBody) : Type 0 where
  pub reads : WalkReads x text o [] ls more T
  pub flat : o.depth ≡ 0
  pub broken : o.broken ≡ true
  pub bare : c.bare ≡ true → (o.now ≡ true) × (column_at text o.at ≡ c.column)
  pub line : o.line ≤ line_at text o.at

-- After a node: its levels are left to whoever closes them, and the line has text. The document's last block scalar is the one before.
pub record GoesBehindNode (x : yaml_encoding_t) (text : List ℕ) (rest : Rest) (kept : Bool) (ls :
    List ℕ)
    (T : List TokenBody → List TokenBody) : Type 0 where
  pub behind : Cursor
  pub place : WalkState
  pub more : List ℕ
  pub stage : NodeStage x text behind place ls more T
  pub left : Left text place.at (bytes (rest behind))
  pub bare : behind.bare ≡ false
  pub same : behind.kept ≡ kept

-- Where a text goes on as the layout does and then as `rest`, right of the innermost level or at it, these tokens come.
abbrev pub Walks : Layout → (List TokenBody → List TokenBody) → List ℕ → Cursor → Rest → Type 0
Walks a B ls c rest = (x : yaml_encoding_t) (text : List ℕ) (o : WalkState)
    (T : List TokenBody → List TokenBody) → NodeStage x text c o ls [] T
    → indent ls ≤ column_at text o.at → Left text o.at (bytes (a c rest))
    → GoesBehindNode x text rest c.kept ls (λ bs. T (B bs))

-- after the white that bytes begin with is no `#`
unfoldable pub no_comment : List ℕ → Bool
no_comment [] = true
no_comment (b ∷ bs) = if is_gap_byte b then no_comment bs else not (b == ascii.hash)

-- What follows a node in levels from m on: it stops a plain scalar, is no comment, and begins with white or is nothing.
pub record Follows (m : ℕ) (rest : Rest) : Type 0 where
  pub stops : (level : ℕ) → m ≤ level → (e : Cursor) → e.bare ≡ false
      → stops_plain_at false level None (bytes (rest e)) ≡ true
  pub calm : (e : Cursor) → e.bare ≡ false → no_comment (bytes (rest e)) ≡ true
  pub white : (e : Cursor) → e.bare ≡ false → begins_white (bytes (rest e)) ≡ true

-- no line feed follows white on a bare line at that column, which would make one break of CR and LF
abbrev pub NoFeed : ℕ → Rest → Type 0
NoFeed n rest = (e : Cursor) → e.bare ≡ true → e.white ≡ true → e.column ≡ n
    → first (bytes (rest e)) ≡ ascii.line_feed → ⊥

-- A bare line with white before it, at a column.
pub record Lined (x : yaml_encoding_t) (text : List ℕ) (rest : Rest) (n : ℕ) (kept : Bool)
    (ls more : List ℕ) (T : List TokenBody → List TokenBody) : Type 0 where
  pub cursor : Cursor
  pub place : WalkState
  pub stage : NodeStage x text cursor place ls more T
  pub left : Left text place.at (bytes (rest cursor))
  pub bare : cursor.bare ≡ true
  pub white : cursor.white ≡ true
  pub column : cursor.column ≡ n
  pub same : cursor.kept ≡ kept

-- A line leads there from every cursor, with every break: by a break and spaces, or by spaces alone, where the line is bare.
abbrev pub LineIsWalked : Type 0
LineIsWalked = (b : LineBreak) (n : ℕ) (x : yaml_encoding_t) (text : List ℕ) (c : Cursor)
    (o : WalkState) (ls more : List ℕ) (T : List TokenBody → List TokenBody) (rest : Rest)
    → NodeStage x text c o ls more T → NoFeed n rest → Left text o.at (bytes (line b n c rest))
    → Lined x text rest n c.kept ls more T

-- A line after a node, whose levels are left to whoever closes them: no key of the node's lines may be looked for there.
pub record LinedUp (x : yaml_encoding_t) (text : List ℕ) (rest : Rest) (n : ℕ) (kept : Bool)
    (ls : List ℕ) (T : List TokenBody → List TokenBody) : Type 0 where
  pub more : List ℕ
  pub lined : Lined x text rest n kept ls more T
  pub later : lined.place.line < line_at text lined.place.at

-- So a line leads there after text.
abbrev pub LineEndsNode : Type 0
LineEndsNode = (b : LineBreak) (n : ℕ) (x : yaml_encoding_t) (text : List ℕ) (kept : Bool)
    (ls : List ℕ) (T : List TokenBody → List TokenBody) (rest : Rest) → NoFeed n rest
    → GoesBehindNode x text (λ e. line b n e rest) kept ls T → LinedUp x text rest n kept ls T

-- ---- `-`, `?` and the `:` of a `?`

-- an indicator of a bare line
pub data BareIndicator : Type 0 where
  Entry : BareIndicator
  Question : BareIndicator
  Answer : BareIndicator

abbrev pub mark_byte : BareIndicator → ℕ
mark_byte Entry = ascii.hyphen
mark_byte Question = ascii.question
mark_byte Answer = ascii.colon

abbrev pub mark_body : BareIndicator → TokenBody
mark_body Entry = tokens.block_entry
mark_body Question = tokens.key
mark_body Answer = tokens.value

-- the level that it may open
abbrev pub mark_level : BareIndicator → Opens
mark_level Entry = opening.Sequence
mark_level Question = opening.Mapping
mark_level Answer = opening.Mapping

-- a `:` is on a later line than all that could be its key
abbrev pub IsLone : BareIndicator → List ℕ → WalkState → Type 0
IsLone Entry text o = Unit {0}
IsLone Question text o = Unit {0}
IsLone Answer text o = o.line < line_at text o.at

-- what is after an indicator of a bare line, at that column, begins with white or is nothing
abbrev pub Parted : ℕ → Rest → Type 0
Parted n rest = (e : Cursor) → e.bare ≡ true → e.white ≡ false → e.column ≡ n
    → begins_white (bytes (rest e)) ≡ true

-- After an indicator of a bare line, in the innermost level.
pub record Entered (x : yaml_encoding_t) (text : List ℕ) (rest : Rest) (n : ℕ) (kept : Bool)
    (ls : List ℕ) (T : List TokenBody → List TokenBody) : Type 0 where
  pub cursor : Cursor
  pub place : WalkState
  pub stage : NodeStage x text cursor place ls [] T
  pub left : Left text place.at (bytes (rest cursor))
  pub bare : cursor.bare ≡ true
  pub white : cursor.white ≡ false
  pub column : cursor.column ≡ n
  pub right : column_at text place.at ≡ n
  pub same : cursor.kept ≡ kept

-- An indicator at a column of a bare line: a level opens there, or is there, and all that is open right of it is closed.
abbrev pub MarkIsWalked : Type 0
MarkIsWalked = (k : BareIndicator) (x : yaml_encoding_t) (text : List ℕ) (n : ℕ) (kept : Bool)
    (ls more new : List ℕ) (what : Opens) (T : List TokenBody → List TokenBody) (rest : Rest)
    → (here : Lined x text (λ e. indicator (mark_byte k) e rest) n kept ls more T)
    → IsLone k text here.place → indent ls ≤ n + 1 → Rises (n + 1) more
    → opened true (n + 1) ls ≡ new → start_of 0 (n + 1) ls (mark_level k) ≡ what
    → Parted (n + 1) rest
    → Entered x text rest (n + 1) kept new (λ bs. T (start_bodies what (mark_body k ∷ bs)))

-- ---- a plain scalar

-- A plain value that isn't empty, as content in the innermost level.
abbrev pub PlainIsWalked : Type 0
PlainIsWalked = (page : Page) (ls : List ℕ) (c : Cursor) (value : List ℕ) (rest : Rest)
    → IsUtf8 value → 0 < length value → may_be_plain page.unicode false (chars value) ≡ true
    → 0 < page.indentation → indent ls ≤ page.indentation → Follows (indent ls) rest
    → Walks (plain page false (chars value))
    (λ bs. tokens.scalar value YAML_PLAIN_SCALAR_STYLE ∷ bs) ls c rest

-- A single quoted value, as content in the innermost level.
abbrev pub SingleIsWalked : Type 0
SingleIsWalked = (page : Page) (ls : List ℕ) (c : Cursor) (value : List ℕ) (rest : Rest)
    → IsUtf8 value → (allowed page.unicode (chars value)).single ≡ true
    → 0 < page.indentation → Follows (indent ls) rest
    → Walks (single_quoted page (chars value))
    (λ bs. tokens.scalar value YAML_SINGLE_QUOTED_SCALAR_STYLE ∷ bs) ls c rest
