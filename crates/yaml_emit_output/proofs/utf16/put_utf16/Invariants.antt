use Rattle.std.proofs.Common.{◌≡◌, ◌++◌, length, take}
use Rattle.std.specs.Str.{chars}
use Rattle.std.specs.Prelude.{IsUtf8}
use Rattle.yaml_emit_output.specs.Sheet.{spelled}
use Rattle.yaml_emit_output.proofs.utf16.put_utf16.Given as goal

abbrev pub invariant-loop-c : goal.invariant-loop-c
invariant-loop-c l = record {
  utf8 : IsUtf8 l.left;
  grown : take (length l.fn.bytes.items) l.bytes.items ≡ l.fn.bytes.items;
  rest : l.bytes.items ++ spelled l.encoding (chars l.left) ≡ l.fn.bytes.items ++ spelled l.encoding (chars l.text);
}

abbrev pub decreases-loop-c : goal.decreases-loop-c
decreases-loop-c l = length l.left
