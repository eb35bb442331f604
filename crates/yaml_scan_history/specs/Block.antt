-- Block scalars.
use Rattle.std.specs.Prelude.{ℕ, zero, suc, ◌+◌, ◌-◌, Bool, ◌==◌, nat_lt, nat_le, if◌then◌else◌, List, length, Result, Ok, Err}
use Rattle.yaml_scan_model.specs.scan_types.Ascii as ascii
use Rattle.yaml_scan_model.specs.declared.name.yaml_scalar_style_t.{yaml_scalar_style_t}
use Rattle.yaml_scan_model.specs.declared.name.yaml_scalar_style_t.TheVariants as styles
use Rattle.yaml_scan_model.specs.declared.problem.Problem.TheVariants as problems
use Rattle.yaml_scan_model.specs.scan_types.Marks.{byte, break_width, column_at}
use Rattle.yaml_scan_model.specs.Runs.{past_spaces}
use Rattle.yaml_scan_model.specs.Wrong.{Wrong}
use Rattle.yaml_scan_history.specs.Value.{BlockLine, block_value}
use Rattle.yaml_scan_history.specs.Lines.{Lines, in_block, lines_from}
use Rattle.yaml_scan_history.specs.Header.{HeaderText, header_at}

unfoldable pub larger : ℕ → ℕ → ℕ
larger a b = if nat_le a b then b else a

abbrev pub larger_of : ℕ → Result ℕ Wrong → Result ℕ Wrong
larger_of a (Ok b) = Ok (larger a b)
larger_of a (Err w) = Err w

-- where spaces ended, q; `more` is the greatest column after the break there
abbrev pub depth_behind : (ℕ → Result ℕ Wrong) → List ℕ → ℕ → Result ℕ Wrong
depth_behind more text q =
    if byte text q == ascii.tab then Err (in_block problems.TabForSpace q)
    else if nat_lt 0 (break_width text q) then larger_of (column_at text q)
    (more (q + break_width text q))
    else Ok (column_at text q)

-- the greatest column that spaces reach in the blank lines there and in the line after them, in at most n lines
unfoldable pub deepest : ℕ → List ℕ → ℕ → Result ℕ Wrong
deepest zero text p = Ok 0
deepest (suc n) text p = depth_behind (deepest n text) text (past_spaces text p)

-- the text's column after a header with that digit; a level is the indent's column + 1, or 0
unfoldable pub column_of : ℕ → List ℕ → ℕ → ℕ → Result ℕ Wrong
column_of level text digit p =
    if digit == 0 then larger_of (larger level 1) (deepest (suc (length text)) text p)
    else Ok ((level - 1) + digit)

-- A block scalar: its value, the place after its last break, and the place where it stopped.
pub record BlockText : Type 0 where
  pub value : List ℕ
  pub end : ℕ
  pub place : ℕ

abbrev pub block_with : (List BlockLine → List ℕ) → Result Lines Wrong → Result BlockText Wrong
block_with f (Ok ls) = Ok record { value = f ls.lines; end = ls.end; place = ls.place }
block_with f (Err w) = Err w

-- the lines of the text at its column
abbrev pub block_lines : Bool → List ℕ → HeaderText → Result ℕ Wrong → Result BlockText Wrong
block_lines folded text h (Ok c) = block_with (block_value folded h.chomp)
    (lines_from (suc (length text)) c text h.place h.place)
block_lines folded text h (Err w) = Err w

abbrev pub block_behind : Bool → ℕ → List ℕ → Result HeaderText Wrong → Result BlockText Wrong
block_behind folded level text (Ok h) = block_lines folded text h
    (column_of level text h.digit h.place)
block_behind folded level text (Err w) = Err w

-- the block scalar whose indicator is there, `|` or `>`, or what is wrong
abbrev pub block_at : ℕ → List ℕ → ℕ → Result BlockText Wrong
block_at level text p =
    block_behind (byte text p == ascii.greater) level text (header_at text (p + 1))

-- `>` folds, `|` does not
abbrev pub style_at : List ℕ → ℕ → yaml_scalar_style_t
style_at text p = if byte text p == ascii.greater then styles.YAML_FOLDED_SCALAR_STYLE
    else styles.YAML_LITERAL_SCALAR_STYLE
