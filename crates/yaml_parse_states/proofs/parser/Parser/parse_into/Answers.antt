use Rattle.std.proofs.Common.{◌≡◌, ◌∙◌, refl, sym, ap, subst}
use Rattle.yaml_parse_states.specs.declared.parser.Parser.{Parser}
use Rattle.yaml_parse_states.specs.declared.parser.Step.TheVariants as step
use Rattle.yaml_parse_states.specs.Standing.{Stands}
use Rattle.yaml_parse_states.specs.Utf8.{IsUtf8Held}
use Rattle.yaml_parse_states.proofs.Remaining.{gave_front, gave_none, told_by, told_made_by}
use Rattle.yaml_parse_states.proofs.StandingLaws.{told_stands}
use Rattle.yaml_parse_states.proofs.TextsKept.{told_utf8}
use Rattle.yaml_parse_states.proofs.parser.Parser.parse_into.Goals as goal

differ : step.Refused ≡ step.End → ⊥
differ e = cc

pub returns-in-Refused-clause-err : goal.returns-in-Refused-clause-err
returns-in-Refused-clause-err g c =
    told_by g.T.Tokens c.refusal.result c.args.self.now c.next.new.self
    (λ e. differ (sym c.in-Refused.is ∙ c.next.ensures.over e)) c.refusal.ensures c.in-Refused.ensures.steps

pub returns-in-End-clause-fills : goal.returns-in-End-clause-fills
returns-in-End-clause-fills g c = gave_none g.T.Tokens c.args.self.now c.next.new.self c.in-End.ensures.steps.0 c.in-End.ensures.steps.1

pub returns-in-End-clause-between : goal.returns-in-End-clause-between
returns-in-End-clause-between g c = λ h. subst Stands (sym c.in-End.ensures.steps.0) h

pub returns-in-End-clause-utf8 : goal.returns-in-End-clause-utf8
returns-in-End-clause-utf8 g c = λ h. subst (IsUtf8Held g.T.Tokens) (sym c.in-End.ensures.steps.0) h

pub returns-in-Ok-clause-fills : goal.returns-in-Ok-clause-fills
returns-in-Ok-clause-fills g c =
    gave_front g.T.Tokens _ c.args.self.now c.next.new.self c.fill.new.self c.in-Event.ensures.steps c.fill.ensures.stays c.in-Ok.ensures.event

pub returns-in-Ok-clause-between : goal.returns-in-Ok-clause-between
returns-in-Ok-clause-between g c = λ h.
    told_stands g.T.Tokens _ c.next.new.self c.fill.new.self (c.in-Event.ensures.stands h) c.fill.ensures.stays c.in-Ok.ensures.event

pub returns-in-Ok-clause-utf8 : goal.returns-in-Ok-clause-utf8
returns-in-Ok-clause-utf8 g c = λ h.
    told_utf8 g.T.Tokens _ c.next.new.self c.fill.new.self (c.in-Event.ensures.utf8 h) c.fill.ensures.stays c.in-Ok.ensures.event

pub returns-in-Err-clause-err : goal.returns-in-Err-clause-err
returns-in-Err-clause-err g c =
    told_made_by g.T.Tokens _ c.args.self.now c.next.new.self c.fill.new.self c.refuse_by-refused.new.self c.in-Event.ensures.steps c.fill.ensures.stays
    (ap (λ (p : Parser _ _). p.tokens) c.refuse_by-refused.ensures.same) (ap (λ (p : Parser _ _). p.state) c.refuse_by-refused.ensures.same) refl
