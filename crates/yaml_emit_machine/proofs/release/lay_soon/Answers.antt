use Rattle.std.proofs.Common.{◌∙◌, sym, ap, inl, inr}
use Rattle.std.specs.Prelude.{◌&&◌, not}
use Rattle.yaml_parse_model.specs.Events.{borrowed_body}
use Rattle.yaml_emit_layout.specs.Content.{emitter_event}
use Rattle.yaml_emit_core.specs.Steps.{opens}
use Rattle.std.proofs.lemmas.Bool.{false≢true}
use Rattle.yaml_emit_layout.specs.declared.Settings.{Settings}
use Rattle.yaml_emit_machine.proofs.Holding.{asks_waits}
use Rattle.yaml_emit_machine.proofs.Following.{on_alone}
use Rattle.yaml_emit_machine.proofs.Stopped.{on_stuck, on_starved}
use Rattle.yaml_emit_machine.proofs.release.lay_soon.Goals as goal

pub returns-then-not-release_all : goal.returns-then-not-release_all
returns-then-not-release_all c = record {
  lays = rw c.clear.ensures.events (on_stuck _ _ _ _ _ c.release_all.ensures.lays (sym c.release_all.ensures.goes ∙ c.if-not-release_all.true));
  utf8 = c.clear.ensures.utf8;
  waits = inl c.clear.ensures.events;
  stopped = λ _. c.clear.ensures.events;
  settings = c.release_all.ensures.settings;
}

pub returns-in-Ok : goal.returns-in-Ok
returns-in-Ok c =
    let going = sym c.release_all.ensures.goes ∙ c.if-not-release_all.false in
    let none = c.release_all.ensures.none c.if-not-release_all.false in
    let held = c.in-Ok.ensures.events in
    let asks = ap (λ (z : Settings). not z.canonical && opens (emitter_event (borrowed_body c.args.event.now))) (sym c.release_all.ensures.settings) ∙ c.asks_empty.ensures.some c.if-asks_empty.true in
    let alone = rw none at held in
    record {
      lays = rw held c.release_all.ensures.lays;
      utf8 = c.hold.ensures.utf8;
      waits = inr (alone, asks);
      stopped = λ off. absurd (false≢true (sym off ∙ going));
      settings = c.release_all.ensures.settings;
    }

pub returns-in-Err : goal.returns-in-Err
returns-in-Err c =
    let going = sym c.release_all.ensures.goes ∙ c.if-not-release_all.false in
    let asks = ap (λ (z : Settings). not z.canonical && opens (emitter_event (borrowed_body c.args.event.now))) (sym c.release_all.ensures.settings) ∙ c.asks_empty.ensures.some c.if-asks_empty.true in
    let none = c.in-Err.ensures.none in
    record {
      lays = rw none (on_starved _ _ _ _ _ _ c.release_all.ensures.lays going (asks_waits c.args.core.now.settings.canonical _ _ (c.release_all.ensures.none c.if-not-release_all.false) asks) c.starve.ensures);
      utf8 = c.hold.ensures.utf8;
      waits = inl none;
      stopped = λ _. none;
      settings = c.starve.ensures.settings ∙ c.release_all.ensures.settings;
    }

pub returns-else-asks_empty : goal.returns-else-asks_empty
returns-else-asks_empty c =
    let going = sym c.release_all.ensures.goes ∙ c.if-not-release_all.false in
    let none = c.release_all.ensures.none c.if-not-release_all.false in
    record {
      lays = rw none (on_alone _ _ _ _ _ _ c.release_all.ensures.lays none going (c.asks_empty.ensures.same c.if-asks_empty.false) c.lay_out.ensures);
      utf8 = c.release_all.ensures.utf8;
      waits = inl none;
      stopped = λ _. none;
      settings = c.lay_out.ensures.settings ∙ c.release_all.ensures.settings;
    }

pub lay_out-requires-clause-going : goal.lay_out-requires-clause-going
lay_out-requires-clause-going c = sym c.release_all.ensures.goes ∙ c.if-not-release_all.false
