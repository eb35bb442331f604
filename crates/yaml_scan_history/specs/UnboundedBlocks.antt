-- Runs, indentation and the lines of a block scalar as relations, with no bound on their steps.
use Rattle.std.specs.Prelude.{◌≡◌, ◌≢◌, ◌<◌, ◌≤◌, ℕ, suc, ◌+◌, Bool, true, false, List, [], length, Result, Ok, Err}
use Rattle.yaml_scan_model.specs.scan_types.Ascii as ascii
use Rattle.yaml_scan_model.specs.scan_types.Marks.{byte, break_width, column_at}
use Rattle.yaml_scan_model.specs.Runs.{is_blank_there, is_space_there, is_text, past_blanks, past_spaces, line_end}
use Rattle.yaml_scan_model.specs.declared.problem.Problem.TheVariants as problems
use Rattle.yaml_scan_model.specs.Wrong.{Wrong}
use Rattle.yaml_scan_history.specs.Block.{deepest}
use Rattle.yaml_scan_history.specs.Value.{BlockLine}
use Rattle.yaml_scan_history.specs.Lines.{in_block, Stops, Line, Tab, line_spot, Lines, with_line, lines_from}

-- ---- runs

-- The longest run of a kind that begins at a place ends before q: all up to q is of the kind, and what is at q isn't.
pub record EndsBlockRun (kind : List ℕ → ℕ → Bool) (text : List ℕ) (p q : ℕ) : Type 0 where
  pub after : p ≤ q
  pub each : (k : ℕ) → p ≤ k → k < q → kind text k ≡ true
  pub stops : kind text q ≡ false

-- Blanks, spaces and the text of a line end there, and nowhere else.
abbrev pub RunsEnd : Type 0
RunsEnd = (text : List ℕ) (p : ℕ) → EndsBlockRun is_blank_there text p (past_blanks text p)
    × EndsBlockRun is_space_there text p (past_spaces text p)
    × EndsBlockRun is_text text p (line_end text p)

abbrev pub RunEndsOnce : Type 0
RunEndsOnce = (kind : List ℕ → ℕ → Bool) (text : List ℕ) (p q r : ℕ) → EndsBlockRun kind text p q
    → EndsBlockRun kind text p r → q ≡ r

-- ---- indentation

-- From a line's place one comes to a line's place, past blank lines alone: spaces and a break each.
pub data LeadsTo (text : List ℕ) : ℕ → ℕ → Type 0 where
  at_once : (p : ℕ) → LeadsTo text p p
  behind_blank : (p q : ℕ) → 0 < break_width text (past_spaces text p)
      → LeadsTo text (past_spaces text p + break_width text (past_spaces text p)) q
      → LeadsTo text p q

-- the column that the spaces of the line there reach
abbrev pub indent_at : List ℕ → ℕ → ℕ
indent_at text p = column_at text (past_spaces text p)

-- The column is the deepest indentation of the next lines, blank ones and the first that isn't; none has a tab after its spaces.
pub record IsDeepest (text : List ℕ) (p c : ℕ) : Type 0 where
  pub line : ℕ
  pub led : LeadsTo text p line
  pub reached : c ≡ indent_at text line
  pub most : (q : ℕ) → LeadsTo text p q → indent_at text q ≤ c
  pub no_tab : (q : ℕ) → LeadsTo text p q → byte text (past_spaces text q) ≢ ascii.tab

-- One of these lines has a tab after its spaces, which is wrong.
pub record IsTabbed (text : List ℕ) (p : ℕ) (w : Wrong) : Type 0 where
  pub line : ℕ
  pub led : LeadsTo text p line
  pub tab : byte text (past_spaces text line) ≡ ascii.tab
  pub told : w ≡ in_block problems.TabForSpace (past_spaces text line)

abbrev pub Deepest : List ℕ → ℕ → Result ℕ Wrong → Type 0
Deepest text p (Ok c) = IsDeepest text p c
Deepest text p (Err w) = IsTabbed text p w

-- The deepest indentation at a place is one, or a line has a tab, and nothing else.
abbrev pub DeepestIs : Type 0
DeepestIs = (text : List ℕ) (p : ℕ) → Deepest text p (deepest (suc (length text)) text p)

abbrev pub DeepestIsOne : Type 0
DeepestIsOne = (text : List ℕ) (p : ℕ) (r : Result ℕ Wrong) → Deepest text p r
    → r ≡ deepest (suc (length text)) text p

-- ---- lines

-- The lines from a place on whose text is at a column, where the last one ended at `end`: line by line up to the end of the
-- scalar, or a tab.
pub data AreLinesFrom (c : ℕ) (text : List ℕ) : ℕ → ℕ → Result Lines Wrong → Type 0 where
  stops : (end p q : ℕ) → line_spot c text p ≡ Stops q
      → AreLinesFrom c text end p (Ok record { lines = []; end = end; place = q })
  goes_on : (end p q : ℕ) (l : BlockLine) (rest : Result Lines Wrong)
      → line_spot c text p ≡ Line l q → AreLinesFrom c text q q rest
      → AreLinesFrom c text end p (with_line l rest)
  has_tab : (end p q : ℕ) → line_spot c text p ≡ Tab q
      → AreLinesFrom c text end p (Err (in_block problems.TabForSpace q))

-- The lines at a place are some, and the only ones.
abbrev pub LinesAre : Type 0
LinesAre = (c : ℕ) (text : List ℕ) (end p : ℕ)
    → AreLinesFrom c text end p (lines_from (suc (length text)) c text end p)

abbrev pub LinesAreOne : Type 0
LinesAreOne = (c : ℕ) (text : List ℕ) (end p : ℕ) (r : Result Lines Wrong)
    → AreLinesFrom c text end p r → r ≡ lines_from (suc (length text)) c text end p
