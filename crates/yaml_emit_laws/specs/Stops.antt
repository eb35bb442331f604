-- What is after a plain scalar stops it: a test of the bytes that are left.
use Rattle.std.specs.Prelude.{ℕ, ◌+◌, ◌≡◌, Bool, true, false, not, ◌&&◌, ◌||◌, ◌==◌, nat_lt, if◌then◌else◌, List, [], ◌∷◌, ◌++◌, length, Option, Some, None, replicate, ◌<◌, encode_utf8, encode_utf8_all}
use Rattle.yaml_emit_layout.specs.scan_types.Ascii as ascii
use lib.Utf8.{scalar}
use Rattle.yaml_emit_layout.specs.scan_types.Marks.{break_of}
use Rattle.yaml_scan_history.specs.Written.{HasAt, are_gap}
use Rattle.yaml_scan_history.specs.Plain.{is_bracket}
use Rattle.yaml_scan_laws.specs.PlainLaws.{ends_plain}
use Rattle.yaml_emit_layout.specs.declared.Cursor.{Cursor}
use Rattle.yaml_emit_layout.specs.declared.LineBreak.{LineBreak}
use Rattle.yaml_emit_layout.specs.Layout.{Layout}
use Rattle.yaml_emit_layout.specs.Quoted.{first, is_printable}
use Rattle.yaml_emit_layout.specs.Spelling.{break_text}
use Rattle.yaml_emit_layout.specs.Text.{is_break}
use Rattle.yaml_emit_layout.specs.Style.{behind}
use Rattle.yaml_emit_laws.specs.Walk.{Left}
use Rattle.yaml_emit_laws.specs.PlainLaws.{IsReadPlain, PlainIsBack}

-- a space, LF or CR
abbrev pub is_gap_byte : ℕ → Bool
is_gap_byte b = b == ascii.space || (b == ascii.line_feed || b == ascii.carriage_return)

-- the spaces and breaks that bytes begin with
unfoldable pub white_of : List ℕ → List ℕ
white_of [] = []
white_of (b ∷ bs) = if is_gap_byte b then b ∷ white_of bs else []

-- one of them comes first, or nothing
abbrev pub begins_white : List ℕ → Bool
begins_white [] = true
begins_white (b ∷ bs) = is_gap_byte b

-- `---` or `...`, and white or the end after it
abbrev pub begins_mark : ℕ → List ℕ → Bool
begins_mark a (b ∷ c ∷ bs) = (((a == ascii.hyphen && b == ascii.hyphen) && c == ascii.hyphen)
    || ((a == ascii.dot && b == ascii.dot) && c == ascii.dot)) && begins_white bs
begins_mark a (b ∷ []) = false
begins_mark a [] = false

-- after that many columns: a document mark, or in a block what is left of the level
abbrev pub stops_line : Bool → ℕ → Option ℕ → ℕ → List ℕ → Bool
stops_line flow level None b bs = false
stops_line flow level (Some n) b bs = (n == 0 && begins_mark b bs) || (not flow && nat_lt n level)

-- `:` before white, in brackets a comma or a bracket, or by the line
abbrev pub stops_here : Bool → ℕ → Option ℕ → ℕ → List ℕ → Bool
stops_here flow level at b bs =
    (not (b == ascii.tab) && break_of b (first bs) (first (behind bs)) == 0)
    && ((b == ascii.colon && begins_white bs)
    || ((flow && is_bracket b) || stops_line flow level at b bs))

abbrev pub one_more : Option ℕ → Option ℕ
one_more None = None
one_more (Some n) = Some (n + 1)

-- the column after a space or a break
abbrev pub column_behind : ℕ → Option ℕ → Option ℕ
column_behind b at = if b == ascii.space then one_more at else Some 0

-- White, and then the end or what stops a plain scalar; by the columns since the last break, or none where the scalar's line
-- goes on.
unfoldable pub stops_plain_at : Bool → ℕ → Option ℕ → List ℕ → Bool
stops_plain_at flow level at [] = true
stops_plain_at flow level at (b ∷ bs) = if is_gap_byte b
    then stops_plain_at flow level (column_behind b at) bs else stops_here flow level at b bs

-- neither white nor a break comes first, but something
abbrev pub begins_solid : List ℕ → Bool
begins_solid [] = false
begins_solid (b ∷ bs) = not (is_gap_byte b)
    && (not (b == ascii.tab) && break_of b (first bs) (first (behind bs)) == 0)

-- What stops a plain scalar: nothing; in brackets a comma or a bracket; `:` before white; a document mark at a line's start; and
-- in a block all that is solid, left of the level.
abbrev pub WhatStopsPlain : Type 0
WhatStopsPlain = (flow : Bool) (level : ℕ) (at : Option ℕ) →
    (stops_plain_at flow level at [] ≡ true)
    × ((b : ℕ) (bs : List ℕ) → is_bracket b ≡ true → stops_plain_at true level at (b ∷ bs) ≡ true)
    × ((bs : List ℕ) → begins_white bs ≡ true → stops_plain_at flow level at (ascii.colon ∷ bs)
    ≡ true)
    × ((bs : List ℕ) → begins_white bs ≡ true
    → (stops_plain_at flow level (Some 0) (ascii.hyphen ∷ ascii.hyphen ∷ ascii.hyphen ∷ bs) ≡ true)
    × (stops_plain_at flow level (Some 0) (ascii.dot ∷ ascii.dot ∷ ascii.dot ∷ bs) ≡ true))
    × ((n : ℕ) (bs : List ℕ) → n < level → begins_solid bs ≡ true
    → stops_plain_at false level (Some n) bs ≡ true)

-- A character that is printable, no space and no break is solid, whatever follows.
abbrev pub CharactersAreSolid : Type 0
CharactersAreSolid = (x : ℕ) (bs : List ℕ) → scalar x ≡ true → is_printable x ≡ true
    → is_break x ≡ false → (x == ascii.space) ≡ false → begins_solid (encode_utf8 x ++ bs) ≡ true

-- Where such bytes are left, they begin with a gap, and after it a plain scalar ends.
abbrev pub StopsEndPlain : Type 0
StopsEndPlain = (flow : Bool) (level : ℕ) (text : List ℕ) (p : ℕ) (bs : List ℕ) → Left text p bs
    → stops_plain_at flow level None bs ≡ true
    → HasAt text p (white_of bs) × (are_gap (white_of bs) ≡ true)
    × (ends_plain flow level text (p + length (white_of bs)) ≡ true)

-- So a text that goes on as what is written for a plain value, and then with such bytes, has one plain scalar there, which takes
-- the white that they begin with.
abbrev pub PlainGoesOn : Type 0
PlainGoesOn = (flow : Bool) (level : ℕ) (a : Layout) (c : Cursor) (value : List ℕ)
    → (back : PlainIsBack flow level a c value) → (text : List ℕ) (p : ℕ) (bs : List ℕ)
    → Left text p (encode_utf8_all back.letters ++ bs) → stops_plain_at flow level None bs ≡ true
    → IsReadPlain flow level value (encode_utf8_all back.letters) (white_of bs) text p

-- A break and n spaces lead to column n, and spaces alone go on in their line.
abbrev pub StopsBehindLines : Type 0
StopsBehindLines = (flow : Bool) (level n : ℕ) (bs : List ℕ) →
    ((b : LineBreak) (at : Option ℕ)
    → stops_plain_at flow level at (break_text b ++ (replicate n ascii.space ++ bs))
    ≡ stops_plain_at flow level (Some n) bs)
    × (stops_plain_at flow level None (replicate n ascii.space ++ bs)
    ≡ stops_plain_at flow level None bs)
