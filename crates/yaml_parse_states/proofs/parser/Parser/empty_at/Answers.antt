use Rattle.std.proofs.Common.{◌∙◌, sym, ap, subst}
use Rattle.yaml_parse_states.specs.declared.parser.Parser.{Parser}
use Rattle.yaml_parse_states.specs.Standing.{Stands, between_in}
use Rattle.yaml_parse_states.proofs.parser.Parser.empty_at.Goals as goal

pub returns-clause-stands : goal.returns-clause-stands
returns-clause-stands g c = λ h b. c.empty.ensures.stands (subst Stands (sym c.give-given.ensures.same) h) (ap (λ (p : Parser _ _). between_in p.state) c.give-given.ensures.same ∙ b)
