use Rattle.std.proofs.Common.{◌≡◌, ◌≤◌, ◌∙◌, sym, ap, refl, subst, length, true, [], ◌∷◌, rules}
use Rattle.std.proofs.lemmas.Bool.{false≢true}
use Rattle.yaml_emit_machine.specs.Emitter.{Emitter}
use Rattle.yaml_emit_machine.specs.emit_layout.Content.{stream_end}
use Rattle.yaml_emit_machine.proofs.Taking.{takes_marked, notes_marked, tells_marked}
use Rattle.yaml_emit_machine.proofs.Blaming.{blames_marked}
use Rattle.yaml_emit.proofs.Told.{on_ok, on_err}
use Rattle.yaml_emit.proofs.dump.yaml_emitter_close.Goals as goal

pub returns-then-is_closed : goal.returns-then-is_closed
returns-then-is_closed c =
    let shut : c.args.emitter.now.closed ≡ true = sym c.is_closed.ensures ∙ c.if-is_closed.true in
    record {
      answer = c.answer.ensures.answer;
      again = λ on. refl;
      takes = λ open_still. absurd (false≢true (sym open_still ∙ shut));
      memory = λ open_still. absurd (false≢true (sym open_still ∙ shut));
      blames = λ open_still. absurd (false≢true (sym open_still ∙ shut));
      tells = c.answer.ensures.tells;
      stays = λ f some. refl;
      few = c.answer.ensures.few;
      closed = on_ok _ _ _ c.answer.ensures.answer (λ none. shut);
      refused = on_err _ _ _ c.answer.ensures.answer (λ some. refl);
      keeps = refl;
      begun = c.answer.ensures.running c.requires;
    }

pub returns-in_ok-answer : goal.returns-in_ok-answer
returns-in_ok-answer c = record {
  answer = search rules;
  again = λ on. absurd (false≢true (sym (sym c.is_closed.ensures ∙ c.if-is_closed.false) ∙ on));
  takes = λ open_still. takes_marked _ c.take_event.new.emitter _ (stream_end ∷ []) [] c.take_event.new.emitter.opened true c.set_closed.ensures c.take_event.ensures.takes;
  memory = λ open_still. notes_marked stream_end c.args.emitter.now c.take_event.new.emitter _ c.take_event.new.emitter.opened true c.set_closed.ensures c.take_event.ensures.memory;
  blames = λ open_still. blames_marked stream_end c.args.emitter.now c.take_event.new.emitter _ c.take_event.new.emitter.opened true c.set_closed.ensures c.take_event.ensures.blames;
  tells = tells_marked c.take_event.new.emitter _ c.take_event.new.emitter.opened true c.set_closed.ensures c.answer-else-is_closed.ensures.tells;
  stays = search rules;
  few = let P : Emitter → Type 0 = λ e. length e.held ≤ 3 in subst P (sym c.set_closed.ensures) c.take_event.ensures.few;
  closed = ap (λ (e : Emitter). e.closed) c.set_closed.ensures;
  refused = tt;
  keeps = ap (λ (e : Emitter). e.opened) c.set_closed.ensures ∙ c.take_event.ensures.opened.0;
  begun = ap (λ (e : Emitter). e.fresh) c.set_closed.ensures ∙ c.take_event.ensures.begun;
}

pub returns-in_err-answer : goal.returns-in_err-answer
returns-in_err-answer c = record {
  answer = search rules;
  again = λ on. absurd (false≢true (sym (sym c.is_closed.ensures ∙ c.if-is_closed.false) ∙ on));
  takes = λ open_still. c.take_event.ensures.takes;
  memory = λ open_still. c.take_event.ensures.memory;
  blames = λ open_still. c.take_event.ensures.blames;
  tells = c.answer-else-is_closed.ensures.tells;
  stays = c.take_event.ensures.stays;
  few = c.take_event.ensures.few;
  closed = search rules;
  refused = search rules;
  keeps = c.take_event.ensures.opened.0;
  begun = c.take_event.ensures.begun;
}
