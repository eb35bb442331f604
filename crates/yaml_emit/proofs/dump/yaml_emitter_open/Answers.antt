use Rattle.std.proofs.Common.{◌≤◌, ◌∙◌, sym, ap, subst, length, true, [], ◌∷◌, rules}
use Rattle.yaml_emit_machine.specs.Emitter.{Emitter}
use Rattle.yaml_emit_machine.specs.Dumping.{opening_event}
use Rattle.yaml_emit_machine.proofs.Taking.{takes_marked, notes_marked, tells_marked}
use Rattle.yaml_emit_machine.proofs.Blaming.{blames_marked}
use Rattle.yaml_emit.proofs.dump.yaml_emitter_open.Goals as goal

pub returns : goal.returns
returns c = record {
  answer = search rules;
  few = let P : Emitter → Type 0 = λ e. length e.held ≤ 3 in subst P (sym c.set_opened.ensures) c.take_event.ensures.few;
  opened = ap (λ (e : Emitter). e.opened) c.set_opened.ensures;
  refused = tt;
  keeps = ap (λ (e : Emitter). e.closed) c.set_opened.ensures ∙ c.take_event.ensures.opened.1;
  takes = takes_marked _ c.take_event.new.emitter _ (opening_event ∷ []) [] true c.take_event.new.emitter.closed c.set_opened.ensures c.take_event.ensures.takes;
  memory = notes_marked opening_event c.args.emitter.now c.take_event.new.emitter _ true c.take_event.new.emitter.closed c.set_opened.ensures c.take_event.ensures.memory;
  blames = blames_marked opening_event c.args.emitter.now c.take_event.new.emitter _ true c.take_event.new.emitter.closed c.set_opened.ensures c.take_event.ensures.blames;
  tells = tells_marked c.take_event.new.emitter _ true c.take_event.new.emitter.closed c.set_opened.ensures c.answer.ensures.tells;
  stays = search rules;
  stuck = tt;
}

pub returns-in_err-answer : goal.returns-in_err-answer
returns-in_err-answer c = record {
  answer = search rules;
  few = c.take_event.ensures.few;
  opened = search rules;
  refused = search rules;
  keeps = c.take_event.ensures.opened.1;
  takes = c.take_event.ensures.takes;
  memory = c.take_event.ensures.memory;
  blames = c.take_event.ensures.blames;
  tells = c.answer.ensures.tells;
  stays = c.take_event.ensures.stays;
  stuck = search rules;
}
