use Rattle.std.proofs.Common.{refl, ap}
use Rattle.yaml_parse_states.specs.declared.parser.Parser.{Parser}
use Rattle.yaml_parse_states.specs.declared.parser.Turn.TheVariants as turn
use Rattle.yaml_parse_states.proofs.Standing.{opened_stood}
use Rattle.yaml_parse_states.proofs.Founds.{collects}
use Rattle.yaml_parse_states.proofs.TextsKept.{skipped_given}
use Rattle.yaml_parse_states.proofs.parser.Parser.collection.Goals as goal

pub returns-in-Ok-clause-collected : goal.returns-in-Ok-clause-collected
returns-in-Ok-clause-collected g c = collects g.T.Tokens c.args.kind c.args.flow c.args.first c.args.self.now c.open_with.new.self c.skip.new.self c.in-Ok.ensures.opens
    (record { rest = c.skip.ensures.rest; fault = c.skip.ensures.fault; texts = c.skip.ensures.texts; unasked = c.skip.ensures.unasked; places = c.skip.ensures.places })

pub returns-in-Ok-clause-stands : goal.returns-in-Ok-clause-stands
returns-in-Ok-clause-stands g c = λ i b h. opened_stood c.args.first c.args.kind turn.Given _ refl i (c.in-Ok.ensures.stands h) (ap (λ (p : Parser _ _). p.state) c.in-Ok.ensures.opens.same) (ap (λ e. e.kind) c.in-Ok.ensures.opens.slot) b

pub returns-in-Ok-clause-utf8 : goal.returns-in-Ok-clause-utf8
returns-in-Ok-clause-utf8 g c = λ h.
    skipped_given g.T.Tokens c.open_with.new.self c.skip.new.self (c.in-Ok.ensures.utf8 h) c.skip.ensures.utf8 (ap (λ e. e.has_value) c.in-Ok.ensures.opens.slot)
