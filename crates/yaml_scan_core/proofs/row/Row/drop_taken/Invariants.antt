use Rattle.std.proofs.Common.{◌≡◌, ◌+◌, ◌<◌, ◌≤◌, ℕ, length}
use Rattle.std.specs.Prelude.{vec_capacity}
use Rattle.yaml_scan_core.specs.Rows.{row_lexeme, row_of}
use Rattle.yaml_scan_core.proofs.row.Row.drop_taken.Given as goal

abbrev pub invariant-moves : goal.invariant-moves
invariant-moves l = record {
  rest : l.self ≡ record l.initial.self { lexemes = l.self.lexemes };
  long : length l.self.lexemes.items ≡ length l.initial.self.lexemes.items;
  room : vec_capacity l.self.lexemes ≡ vec_capacity l.initial.self.lexemes;
  moved : (i : ℕ) → i < l.at → row_lexeme (row_of l.self) i
      ≡ row_lexeme (row_of l.initial.self) (l.initial.self.next + i);
  others : (i : ℕ) → l.at ≤ i → row_lexeme (row_of l.self) i
      ≡ row_lexeme (row_of l.initial.self) i;
}
