use Rattle.std.proofs.Common.{◌≡◌, ◌∷◌, [], length}
use Rattle.yaml_parse_grammar.specs.States as grammar
use Rattle.yaml_parse_states.specs.Views.{coming_with}
use Rattle.yaml_parse_states.specs.Utf8.{IsUtf8Kept}
use Rattle.yaml_parse_states.proofs.parser.Parser.declared_document.Given as goal

abbrev pub invariant-directives : goal.invariant-directives
invariant-directives g l =
    (coming_with g.T.Tokens (grammar.directives (g.T.Tokens.mark_of l.initial.self.tokens l.start) ∷ []) l.initial.self
    ≡ coming_with g.T.Tokens (grammar.directives (g.T.Tokens.mark_of l.initial.self.tokens l.start) ∷ []) l.self)
    × ((g.T.Tokens.mark_of l.self.tokens ≡ g.T.Tokens.mark_of l.initial.self.tokens)
    × (IsUtf8Kept g.T.Tokens l.initial.self → IsUtf8Kept g.T.Tokens l.self))

abbrev pub decreases-directives : goal.decreases-directives
decreases-directives g l = length (g.T.Tokens.to_come l.self.tokens)
