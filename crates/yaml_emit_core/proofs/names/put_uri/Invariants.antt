use Rattle.std.proofs.Common.{drop}
use Rattle.yaml_emit_output.specs.Draft.{Lays}
use Rattle.yaml_emit_layout.specs.Layout.{letters}
use Rattle.yaml_emit_layout.specs.Tags.{uri_text}
use Rattle.yaml_emit_core.proofs.names.put_uri.Given as goal

abbrev pub invariant-loop-byte : goal.invariant-loop-byte
invariant-loop-byte l = Lays l.fn.draft l.draft (letters (uri_text l.flow l.text)) (letters (uri_text l.flow (drop l.byte-index l.text)))
