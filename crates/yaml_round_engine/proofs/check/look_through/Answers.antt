-- What is to come ends in the fault that all events end in.
use Rattle.std.proofs.Common.{◌∙◌, refl, sym, subst, Option, Some, ap}
use Rattle.yaml_scan_types.specs.Faults.{Fault}
use Rattle.yaml_parse.specs.declared.yaml_mark_t.{yaml_mark_t}
use Rattle.yaml_parse.specs.Events.{borrowed_body}
use Rattle.yaml_parse.specs.Numbering.{undefined_alias}
use Rattle.yaml_parse.specs.Loading.{nothing_loaded}
use Rattle.yaml_round_engine.specs.Checking.{LoadsOn}
use Rattle.yaml_round_engine.proofs.Knowing.{unknown}
use Rattle.yaml_round_engine.proofs.Checking.{passed_event, next_event, over_event, undefined_event, first_event, accepted, faulty, all_seen, fault_seen}
use Rattle.yaml_round_engine.proofs.check.look_through.Goals as goal

pub events-init : goal.events-init
events-init c = (nothing_loaded, (unknown c.args.known.now nothing_loaded c.requires refl refl, refl))

pub events-preserved : goal.events-preserved
events-preserved c =
    next_event c.events.reading.parser c.find.new.self.parser c.find.new.self.given c.events.known c.pass.new.self c.pass.result _
    c.in-Event.ensures.finds (passed_event c.find.new.self.given (borrowed_body c.event.result) c.events.known c.pass.new.self c.pass.result c.event.ensures c.pass.ensures) c.in-On.is c.events.invariant

pub returns-in-Refused : goal.returns-in-Refused
returns-in-Refused c = λ from input h.
    let loads = subst (λ (z : Option Fault). LoadsOn c.events.known c.events.reading.parser z) (first_event from input c.args.reading.now.parser h) c.events.invariant in
    fault_seen from input c.events.reading.parser c.events.known c.fault.result c.find.new.self.parser.answered loads c.fault.ensures c.in-Refused.ensures.finds.reason

pub returns-in-End : goal.returns-in-End
returns-in-End c = λ from input h.
    let loads = subst (λ (z : Option Fault). LoadsOn c.events.known c.events.reading.parser z) (first_event from input c.args.reading.now.parser h) c.events.invariant in
    let end = c.in-End.ensures.finds in
    all_seen from input c.events.reading.parser c.events.known loads end.events end.ending

pub returns-in-Over : goal.returns-in-Over
returns-in-Over c = λ from input h.
    let loads = subst (λ (z : Option Fault). LoadsOn c.events.known c.events.reading.parser z) (first_event from input c.args.reading.now.parser h) c.events.invariant in
    accepted from input (over_event c.events.reading.parser c.find.new.self.parser c.find.new.self.given c.events.known c.pass.new.self c.pass.result _ c.in-Event.ensures.finds (passed_event c.find.new.self.given (borrowed_body c.event.result) c.events.known c.pass.new.self c.pass.result c.event.ensures c.pass.ensures) c.in-Over.is loads)

pub returns-in-Undefined : goal.returns-in-Undefined
returns-in-Undefined c = λ from input h.
    let loads = subst (λ (z : Option Fault). LoadsOn c.events.known c.events.reading.parser z) (first_event from input c.args.reading.now.parser h) c.events.invariant in
    faulty from input c.undefined_alias_fault.result
    (undefined_event c.events.reading.parser c.find.new.self.parser c.find.new.self.given c.events.known c.pass.new.self c.pass.result _ c.in-Event.ensures.finds (passed_event c.find.new.self.given (borrowed_body c.event.result) c.events.known c.pass.new.self c.pass.result c.event.ensures c.pass.ensures) c.in-Undefined.is loads
    ∙ ap (λ (at : yaml_mark_t). Some (undefined_alias at)) (sym c.start_mark.ensures.mark) ∙ ap Some (sym c.undefined_alias_fault.ensures))
