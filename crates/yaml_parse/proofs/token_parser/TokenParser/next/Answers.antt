-- What a step gives, in the words of what is still to come.
use Rattle.std.proofs.Common.{◌∙◌, refl, sym, subst}
use Rattle.yaml_scan_model.specs.scan_types.Faults.{Fault, fault_of}
use Rattle.yaml_parse_grammar.specs.Remaining.{FaultOf, ParserRemaining}
use Rattle.yaml_parse_states.specs.Views.{event_in}
use Rattle.yaml_parse.proofs.Gives.{remains, same_refusal, step_between, step_ends, step_gives, step_kept, step_told, told_fault}
use Rattle.yaml_parse.specs.Finds.{GivesEnd, GivesNext}
use Rattle.yaml_parse.specs.View.{ParserView}
use Rattle.yaml_parse.proofs.token_parser.TokenParser.next.Goals as goal

pub returns-in-Event-clause-finds : goal.returns-in-Event-clause-finds
returns-in-Event-clause-finds g c =
    let t = g.T.Tokens in
    let a : Fault = fault_of c.self.inside.fault in
    subst (λ (z : ParserView). GivesNext (event_in t c.next.new.self) z.remaining (remains t c.next.new.self a)) c.self.view_is
    (step_gives t a c.self.inside.parser c.next.new.self c.in-Event.ensures.steps)

pub returns-in-Event-clause-between : goal.returns-in-Event-clause-between
returns-in-Event-clause-between g c =
    step_between g.T.Tokens (fault_of c.self.inside.fault) c.next.new.self (c.in-Event.ensures.stands c.self.invariant.0)

pub returns-in-Event-clause-utf8 : goal.returns-in-Event-clause-utf8
returns-in-Event-clause-utf8 g c = (c.in-Event.ensures.utf8 c.self.invariant.1).event

pub returns-in-End-clause-finds : goal.returns-in-End-clause-finds
returns-in-End-clause-finds g c =
    let t = g.T.Tokens in
    let a : Fault = fault_of c.self.inside.fault in
    subst (λ (z : ParserView). GivesEnd z.remaining (remains t c.next.new.self a)) c.self.view_is
    (step_ends t a c.self.inside.parser c.next.new.self c.in-End.ensures.steps)

pub tell_fault-requires : goal.tell_fault-requires
tell_fault-requires g c =
    let k = step_kept g.T.Tokens _ c.next.new.self c.in-Refused.ensures.steps in
    (k.1.refusal, k.1.kept, k.0, k.1.means)

pub returns-in-Refused-clause-finds : goal.returns-in-Refused-clause-finds
returns-in-Refused-clause-finds g c =
    let t = g.T.Tokens in
    let f : Fault = fault_of c.tell_fault.new.slot in
    let new : ParserRemaining = remains t c.next.new.self f in
    let k = (step_kept t _ c.next.new.self c.in-Refused.ensures.steps).1 in
    subst (λ (z : ParserView). FaultOf z.remaining f new) c.self.view_is
    (told_fault t (fault_of c.self.inside.fault) f f k.refusal c.self.inside.parser c.next.new.self
    (step_told t k.refusal c.self.inside.parser c.next.new.self (λ e. sym c.in-Refused.is ∙ c.next.ensures.over e) (λ s e. same_refusal k.refusal s (sym k.kept ∙ e)) c.in-Refused.ensures.steps)
    (λ e m. c.tell_fault.ensures k.refusal e k.kept m)
    refl)
