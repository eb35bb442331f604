-- Which indicator is at a place.
use Rattle.std.specs.Prelude.{ℕ, ◌+◌, Bool, ◌&&◌, ◌==◌, List}
use Rattle.yaml_scan_model.specs.scan_types.Ascii as ascii
use Rattle.yaml_scan_model.specs.scan_types.Marks.{byte, column_at, is_blank_or_end}

-- the byte is there three times
abbrev pub is_thrice : ℕ → List ℕ → ℕ → Bool
is_thrice b text p = byte text p == b && (byte text (p + 1) == b && byte text (p + 2) == b)

-- `---` at column 0 before a blank, a break or the end
unfoldable pub is_document_start : List ℕ → ℕ → Bool
is_document_start text p =
    (column_at text p == 0 && is_thrice ascii.hyphen text p) && is_blank_or_end text
    (p + 3)

-- `...` at column 0 before a blank, a break or the end
unfoldable pub is_document_end : List ℕ → ℕ → Bool
is_document_end text p =
    (column_at text p == 0 && is_thrice ascii.dot text p) && is_blank_or_end text
    (p + 3)
