-- Where a lexeme's marks are in the text.
use Rattle.std.specs.Prelude.{ℕ, ◌≡◌, ◌<◌, ◌≤◌, Bool, true, false, List, length}
use Rattle.yaml_scan_history.specs.scan_types.Marks.{mark_at}
use Rattle.yaml_scan_history.specs.declared.lexeme.Lexeme.{Lexeme}
use Rattle.yaml_scan_history.specs.Kinds.{is_end}
use Rattle.yaml_scan_history.specs.History.{placed}

-- It takes a byte at least: its token ends after its start, and it reaches that end or a place after it, inside the text.
pub record TakesBytes (text : List ℕ) (l : Lexeme) : Type 0 where
  pub start : l.start ≡ mark_at text l.start.index
  pub end : l.end ≡ mark_at text l.end.index
  pub reached : l.reached ≡ mark_at text l.reached.index
  pub some : l.start.index < l.end.index
  pub order : l.end.index ≤ l.reached.index
  pub inside : l.reached.index ≤ length text

-- It takes no byte: it starts, ends and reaches the same place of the text.
pub record TakesNothing (text : List ℕ) (l : Lexeme) : Type 0 where
  pub start : l.start ≡ placed l.kind (mark_at text l.start.index)
  pub end : l.end ≡ l.start
  pub reached : l.reached ≡ l.start
  pub inside : l.start.index ≤ length text

abbrev pub Takes : Bool → List ℕ → Lexeme → Type 0
Takes true text l = TakesNothing text l
Takes false text l = TakesBytes text l

-- the stream's end takes no byte, every other lexeme after the stream's start at least one
abbrev pub StandsIn : List ℕ → Lexeme → Type 0
StandsIn text l = Takes (is_end l.kind) text l
