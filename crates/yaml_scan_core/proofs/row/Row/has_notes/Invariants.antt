use Rattle.std.proofs.Common.{◌≡◌, ◌<◌, ℕ, false}
use Rattle.yaml_scan_core.specs.Rows.{is_set, row_lexeme, row_of}
use Rattle.yaml_scan_core.proofs.row.Row.has_notes.Given as goal

abbrev pub invariant-lexemes : goal.invariant-lexemes
invariant-lexemes l = (i : ℕ) → i < l.at → is_set 8 (row_lexeme (row_of l.self) i) ≡ false
