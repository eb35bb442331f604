-- What breaks read as, and the indicators of documents.
use Rattle.std.specs.Prelude.{ℕ, ◌+◌, Bool, ◌&&◌, ◌||◌, ◌==◌, nat_lt, if◌then◌else◌, List, [], ◌∷◌, slice_index}
use Rattle.yaml_scan_types.specs.Ascii as ascii
use Rattle.yaml_scan_types.specs.Marks.{byte, break_width, column_at, is_blank_or_end}

-- what the break there reads as: LS and PS as themselves, every other one as a line feed
unfoldable pub break_value : List ℕ → ℕ → List ℕ
break_value text p = if break_width text p == 3 then 0xE2 ∷ 0x80 ∷ byte text (p + 2) ∷ []
    else ascii.line_feed ∷ []

-- what the break there reads as, or nothing
abbrev pub feed_at : List ℕ → ℕ → List ℕ
feed_at text p = if nat_lt 0 (break_width text p) then break_value text p else []

-- the break reads as a line feed
abbrev pub is_feed : List ℕ → Bool
is_feed bytes = slice_index bytes 0 == ascii.line_feed

-- `---` or `...` at the start of a line, before a blank, a break or the end
unfoldable pub is_document_indicator : List ℕ → ℕ → Bool
is_document_indicator text p =
    column_at text p == 0
    && (((byte text p == ascii.hyphen && byte text (p + 1) == ascii.hyphen)
    && byte text (p + 2) == ascii.hyphen)
    || ((byte text p == ascii.dot && byte text (p + 1) == ascii.dot)
    && byte text (p + 2) == ascii.dot))
    && is_blank_or_end text (p + 3)
