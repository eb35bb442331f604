-- The lines of a block scalar whose text is at a column.
use Rattle.std.specs.Prelude.{ℕ, zero, suc, ◌+◌, ◌-◌, not, ◌&&◌, ◌||◌, ◌==◌, nat_lt, if◌then◌else◌, List, [], ◌∷◌, Result, Ok, Err, slice_range}
use Rattle.yaml_scan_model.specs.scan_types.Ascii as ascii
use Rattle.yaml_scan_model.specs.declared.problem.Problem.{Problem}
use Rattle.yaml_scan_model.specs.declared.problem.Problem.TheVariants as problems
use Rattle.yaml_scan_model.specs.declared.problem.Context.TheVariants as contexts
use Rattle.yaml_scan_model.specs.scan_types.Marks.{byte, break_width, column_at}
use Rattle.yaml_scan_model.specs.Breaks.{break_value, feed_at}
use Rattle.yaml_scan_model.specs.Runs.{line_end}
use Rattle.yaml_scan_model.specs.Wrong.{Wrong}
use Rattle.yaml_scan_history.specs.Value.{BlockLine, Empty, Words}

-- what is wrong in a block scalar
abbrev pub in_block : Problem → ℕ → Wrong
in_block problem p = record { problem = problem; context = contexts.BlockScalar; place = p }

-- how many spaces are there, at most n
unfoldable pub spaces : ℕ → List ℕ → ℕ → ℕ
spaces zero text p = 0
spaces (suc n) text p = if byte text p == ascii.space then suc (spaces n text (p + 1)) else 0

-- What is at a place in a line's indentation: a line with the place after its break, the end of
-- the scalar with the place that shows it, or a tab.
pub data LineSpot : Type 0 where
  Stops : ℕ → LineSpot
  Line : BlockLine → ℕ → LineSpot
  Tab : ℕ → LineSpot

-- where the indentation ends, q, and the text's column is c
unfoldable pub spot_behind : ℕ → List ℕ → ℕ → LineSpot
spot_behind c text q =
    if byte text q == ascii.tab && nat_lt (column_at text q) c then Tab q
    else if nat_lt 0 (break_width text q) then Line (Empty (break_value text q))
    (q + break_width text q)
    else if byte text q == 0 || not (column_at text q == c) then Stops q
    else
    let end = line_end text q in
    Line (Words (slice_range text q end) (feed_at text end)) (end + break_width text end)

abbrev pub line_spot : ℕ → List ℕ → ℕ → LineSpot
line_spot c text p = spot_behind c text (p + spaces (c - column_at text p) text p)

-- The lines, the place after the last one, and the place where they stopped.
pub record Lines : Type 0 where
  pub lines : List BlockLine
  pub end : ℕ
  pub place : ℕ

abbrev pub with_line : BlockLine → Result Lines Wrong → Result Lines Wrong
with_line l (Ok ls) = Ok record { lines = l ∷ ls.lines; end = ls.end; place = ls.place }
with_line l (Err w) = Err w

-- `end` is the place after the last line so far
abbrev pub line_then : (ℕ → Result Lines Wrong) → ℕ → LineSpot → Result Lines Wrong
line_then more end (Stops q) = Ok record { lines = []; end = end; place = q }
line_then more end (Line l q) = with_line l (more q)
line_then more end (Tab q) = Err (in_block problems.TabForSpace q)

-- the lines from there, where the last one ended at `end`, in at most n steps
unfoldable pub lines_from : ℕ → ℕ → List ℕ → ℕ → ℕ → Result Lines Wrong
lines_from zero c text end p = Err (in_block problems.EndOfStream p)
lines_from (suc n) c text end p = line_then (λ q. lines_from n c text q q) end (line_spot c text p)
