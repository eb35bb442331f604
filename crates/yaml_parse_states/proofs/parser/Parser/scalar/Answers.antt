use Rattle.std.proofs.Common.{refl, sym, ap}
use Rattle.yaml_parse_states.specs.declared.parser.Parser.{Parser}
use Rattle.yaml_parse_states.specs.declared.parser.Turn.TheVariants as turn
use Rattle.yaml_parse_states.specs.Standing.{between_behind}
use Rattle.yaml_parse_states.proofs.Standing.{node_stood}
use Rattle.yaml_parse_states.proofs.parser.Parser.scalar.Goals as goal

pub returns-clause-stands : goal.returns-clause-stands
returns-clause-stands g c = λ h. node_stood turn.Given c.args.self.now c.imply.new.self refl h (ap (λ (p : Parser _ _). p.state) c.imply.ensures.implies.same) (ap (λ (p : Parser _ _). p.levels) c.imply.ensures.implies.same) (ap (λ (p : Parser _ _). between_behind p.event.kind) (sym c.imply.ensures.implies.same))
