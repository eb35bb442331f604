use Rattle.std.proofs.Common.{◌≡◌, length}
use Rattle.yaml_parse_states.specs.declared.parser.State.TheVariants as state
use Rattle.yaml_parse_states.specs.Views.{coming_in}
use Rattle.yaml_parse_states.specs.Utf8.{IsUtf8Kept}
use Rattle.yaml_parse_states.proofs.parser.Parser.document_start.Given as goal

abbrev pub invariant-ends : goal.invariant-ends
invariant-ends g l =
    (coming_in g.T.Tokens state.DocumentStart l.initial.self ≡ coming_in g.T.Tokens state.DocumentStart l.self)
    × (IsUtf8Kept g.T.Tokens l.initial.self → IsUtf8Kept g.T.Tokens l.self)

abbrev pub decreases-ends : goal.decreases-ends
decreases-ends g l = length (g.T.Tokens.to_come l.self.tokens)
