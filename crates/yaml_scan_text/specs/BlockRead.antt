-- What the readers of block scalars answer.
use Rattle.std.specs.Prelude.{ℕ, suc, ◌+◌, ◌<◌, ◌≤◌, ◌≡◌, Bool, List, ◌++◌, length, slice_range, Result, Ok, Err}
use Rattle.yaml_scan_types.specs.Ascii as ascii
use Rattle.yaml_scan_model.specs.Wrong.{Wrong}
use Rattle.yaml_scan_types.specs.Marks.{byte, break_width, column_at, is_blank}
use Rattle.yaml_scan_model.specs.Breaks.{break_value, feed_at}
use Rattle.yaml_scan_model.specs.Runs.{line_end}
use Rattle.yaml_scan_model.specs.declared.problem.Problem.TheVariants as problems
use Rattle.yaml_scan_history.specs.declared.header.Chomp.{Chomp}
use Rattle.yaml_scan_history.specs.Header.{HeaderText}
use Rattle.yaml_scan_history.specs.Value.{Empty, Words, block_value}
use Rattle.yaml_scan_history.specs.Lines.{LineSpot, Stops, Line, Tab, in_block, lines_from}
use Rattle.yaml_scan_history.specs.Block.{BlockText, block_with}
use Rattle.yaml_scan_text.specs.declared.block.BlockScalar.{BlockScalar}
use Rattle.yaml_scan_text.specs.declared.block.Header.{Header}
use Rattle.yaml_scan_text.specs.declared.block.Seen.{Seen}
use Rattle.yaml_scan_text.specs.declared.block.Seen.TheVariants as seen
use Rattle.yaml_scan_text.specs.declared.block.Stack.{Stack}
use Rattle.yaml_scan_text.specs.declared.refusal.Refusal.{Refusal}
use Rattle.yaml_scan_text.specs.declared.refusal.Wrong.{Wrong as Told}
use Rattle.yaml_scan_text.specs.Lines.{AtLine, line_start}
use Rattle.yaml_scan_text.specs.Refused.{IsMemory, Refuses, wrong_of}

-- A header is that one, and the place after it is in the line that is given.
pub record IsHeader (text : List ℕ) (h : Header) (x : HeaderText) : Type 0 where
  pub chomp : h.chomp ≡ x.chomp
  pub digit : h.digit ≡ x.digit
  pub small : h.digit < 10
  pub place : h.at ≡ x.place
  pub seat : AtLine text h.line h.at
  pub first : 0 < byte text h.at → column_at text h.at ≡ 0

abbrev pub ReadsHeader : List ℕ → Result Header Told → Result HeaderText Wrong → Type 0
ReadsHeader text (Ok h) (Ok x) = IsHeader text h x
ReadsHeader text (Ok h) (Err w) = ⊥
ReadsHeader text (Err e) (Ok x) = ⊥
ReadsHeader text (Err e) (Err w) = wrong_of e ≡ w

-- The column of the text is that one; where the text ends at the place, no line is measured by it.
abbrev pub FindsColumn : List ℕ → ℕ → Result ℕ Told → Result ℕ Wrong → Type 0
FindsColumn text p (Ok c) (Ok d) = 0 < byte text p → c ≡ d
FindsColumn text p (Ok c) (Err w) = ⊥
FindsColumn text p (Err e) (Ok d) = ⊥
FindsColumn text p (Err e) (Err w) = wrong_of e ≡ w

-- there are spaces from one place to another
pub record AreSpaces (text : List ℕ) (p q : ℕ) : Type 0 where
  pub forward : p ≤ q
  pub each : (k : ℕ) → p ≤ k → k < q → byte text k ≡ ascii.space

-- what is seen is that spot
abbrev pub IsSeen : List ℕ → ℕ → Result Seen Told → LineSpot → Type 0
IsSeen text q (Ok seen.Empty) s = (0 < break_width text q)
    × (s ≡ Line (Empty (break_value text q)) (q + break_width text q))
IsSeen text q (Ok seen.Text) s = (0 < byte text q) × (break_width text q ≡ 0)
    × (s ≡ Line (Words (slice_range text q (line_end text q)) (feed_at text (line_end text q)))
    (line_end text q + break_width text (line_end text q)))
IsSeen text q (Ok seen.Other) s = s ≡ Stops q
IsSeen text q (Err e) s = (s ≡ Tab q) × (wrong_of e ≡ in_block problems.TabForSpace q)

-- after an empty line whose break is there
abbrev pub after_empty : List ℕ → Stack → ℕ → Stack
after_empty text s q = record {
  at = q + break_width text q;
  line = q + break_width text q;
  end = s.end;
  blank = s.blank;
  empties = s.empties;
}

-- after a line whose text starts and ends there
abbrev pub after_text : List ℕ → Stack → ℕ → ℕ → Stack
after_text text s q end = record {
  at = end + break_width text end;
  line = line_start text (end + break_width text end);
  end = end;
  blank = is_blank (byte text q);
  empties = end + break_width text end;
}

-- the block scalar's lines, after its header
abbrev pub lines_at : Bool → Chomp → ℕ → List ℕ → ℕ → Result BlockText Wrong
lines_at folded chomp c text p = block_with (block_value folded chomp)
    (lines_from (suc (length text)) c text p p)

-- A block scalar is that text, its value joined after what was there.
pub record IsBlock (text old new : List ℕ) (b : BlockScalar) (x : BlockText) : Type 0 where
  pub value : new ≡ old ++ x.value
  pub end : b.end ≡ x.end
  pub place : b.place ≡ x.place
  pub seat : AtLine text b.line b.place

-- What reading a block scalar answers.
abbrev pub ReadsBlock : List ℕ → List ℕ → List ℕ → Result BlockScalar Refusal
    → Result BlockText Wrong → Type 0
ReadsBlock text old new (Ok b) (Ok x) = IsBlock text old new b x
ReadsBlock text old new (Ok b) (Err w) = ⊥
ReadsBlock text old new (Err e) (Ok x) = IsMemory e
ReadsBlock text old new (Err e) (Err w) = Refuses e w
