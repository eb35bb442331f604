use Rattle.yaml_round_answers.proofs.Building.{made_of}
use Rattle.yaml_round_answers.proofs.Leading.{first_meant, rest_meant, leads_same, leads_record}
use Rattle.yaml_round_answers.proofs.Giving.{last_nothing, last_record, gives_none, gives_end}
use Rattle.yaml_round_answers.proofs.emitter.give_all.Goals as goal

pub yaml_emitter_emit_ref-requires : goal.yaml_emitter_emit_ref-requires
yaml_emitter_emit_ref-requires c = (made_of _ _ _ c.deref.result.now c.in-Some.directives.items c.event_of.result c.in-Some-event_of.event c.in-Some.ensures c.deref.ensures.value c.event_of.ensures c.in-Some-event_of.is
    (first_meant _ _ _ _ _ c.loop-record-test.true c.loop-record.invariant.meant)).1

pub loop-record-init : goal.loop-record-init
loop-record-init c = record {
  meant = c.requires;
  leads = leads_same _ _;
  last = λ none. last_nothing _ _;
  few = λ few. few;
}

pub loop-record-preserved : goal.loop-record-preserved
loop-record-preserved c =
    let is = (made_of _ _ _ c.deref.result.now c.in-Some.directives.items c.event_of.result c.in-Some-event_of.event c.in-Some.ensures c.deref.ensures.value c.event_of.ensures c.in-Some-event_of.is
    (first_meant _ _ _ _ _ c.loop-record-test.true c.loop-record.invariant.meant)).0 in
    record {
      meant = rest_meant _ _ _ _ _ _ c.loop-record-test.true c.loop-record.invariant.meant is;
      leads = leads_record _ _ _ _ _ _ _ _ _ _ c.loop-record-test.true c.loop-record.invariant.meant is c.loop-record.invariant.leads c.yaml_emitter_emit_ref.ensures.takes;
      last = last_record _ _ _ _ _ _ _ _ _ _ c.loop-record-test.true c.loop-record.invariant.meant is c.loop-record.invariant.last c.yaml_emitter_emit_ref.ensures.stays c.yaml_emitter_emit_ref.ensures.last;
      few = λ few. c.yaml_emitter_emit_ref.ensures.few;
    }

pub returns-then-is_empty-clause-given : goal.returns-then-is_empty-clause-given
returns-then-is_empty-clause-given c = gives_none _ _ _ _ _ c.is_empty.ensures c.if-is_empty.true

pub returns-clause-given : goal.returns-clause-given
returns-clause-given c = gives_end _ _ _ _ _ _ _ c.is_empty.ensures c.if-is_empty.false c.requires c.loop-record-test.false c.loop-record.invariant.leads c.loop-record.invariant.last c.loop-record.invariant.few
