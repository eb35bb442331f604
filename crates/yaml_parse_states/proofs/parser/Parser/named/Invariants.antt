use Rattle.yaml_parse_states.proofs.Properties.{missing}
use Rattle.yaml_parse_states.proofs.Named.{NamedSo}
use Rattle.yaml_parse_states.proofs.parser.Parser.named.Given as goal

abbrev pub invariant-properties : goal.invariant-properties
invariant-properties g l = NamedSo g.T.Tokens l.initial.self l.self

abbrev pub decreases-properties : goal.decreases-properties
decreases-properties g l = missing l.self.event
