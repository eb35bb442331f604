use Rattle.std.proofs.Common.{refl, ap}
use Rattle.yaml_parse_states.specs.declared.parser.Parser.{Parser}
use Rattle.yaml_parse_states.specs.declared.parser.State.TheVariants as state
use Rattle.yaml_parse_states.specs.declared.parser.Turn.TheVariants as turn
use Rattle.yaml_parse_states.specs.declared.event.EventKind.TheVariants as event
use Rattle.yaml_parse_states.proofs.Standing.{opened_stood}
use Rattle.yaml_parse_states.proofs.parser.Parser.indentless_sequence.Goals as goal

pub returns-in-Ok-clause-stands : goal.returns-in-Ok-clause-stands
returns-in-Ok-clause-stands g c = λ h. opened_stood state.IndentlessSequenceEntry event.SequenceStart turn.Given c.open_with.new.self refl tt (c.in-Ok.ensures.stands h) (ap (λ (p : Parser _ _). p.state) c.in-Ok.ensures.opens.same) (ap (λ e. e.kind) c.in-Ok.ensures.opens.slot) refl
