use Rattle.std.proofs.Common.{◌∙◌, sym}
use Rattle.yaml_emit_machine.proofs.Holding.{passed_waits, pushed_waits, waits_as, last_passed, last_pushed, last_none, none_ready}
use Rattle.yaml_emit_machine.proofs.Following.{lays_past}
use Rattle.yaml_emit_machine.proofs.Stopped.{lays_stuck, lays_starved}
use Rattle.yaml_emit_machine.proofs.release.hold_or_lay.Goals as goal

pub returns-then-not-is_going : goal.returns-then-not-is_going
returns-then-not-is_going c = record {
  lays = rw c.clear.ensures.events (lays_stuck _ _ _ _ _ c.release.ensures.lays (sym c.is_going.ensures ∙ c.if-not-is_going.true));
  utf8 = c.clear.ensures.utf8;
  waits = λ g. none_ready _ c.clear.ensures.events;
  last = last_none _ _ c.clear.ensures.events;
  settings = c.release.ensures.settings;
}

pub returns-then-passes : goal.returns-then-passes
returns-then-passes c =
    let passes = sym c.passes.ensures ∙ c.if-passes.true in
    record {
      lays = lays_past _ _ _ _ _ _ c.release.ensures.lays (sym c.is_going.ensures ∙ c.if-not-is_going.false) passes c.lay_out.ensures;
      utf8 = c.release.ensures.utf8;
      waits = λ g. passed_waits _ _ passes;
      last = last_passed _ _ _ passes;
      settings = c.lay_out.ensures.settings ∙ c.release.ensures.settings;
    }

pub returns-in-Ok : goal.returns-in-Ok
returns-in-Ok c =
    let going = sym c.is_going.ensures ∙ c.if-not-is_going.false in
    let held = c.in-Ok.ensures.events in
    record {
      lays = rw held c.release.ensures.lays;
      utf8 = c.hold.ensures.utf8;
      waits = λ g. pushed_waits _ _ _ held (c.release.ensures.waits going) (sym c.passes.ensures ∙ c.if-passes.false);
      last = last_pushed _ _ _ _ c.release.ensures.last held;
      settings = c.release.ensures.settings;
    }

pub returns-in-Err : goal.returns-in-Err
returns-in-Err c =
    let going = sym c.is_going.ensures ∙ c.if-not-is_going.false in
    let waits = waits_as _ _ (c.release.ensures.waits going) (sym c.passes.ensures ∙ c.if-passes.false) in
    let none = c.in-Err.ensures.none in
    record {
      lays = rw none (lays_starved _ _ _ _ _ _ c.release.ensures.lays going waits c.starve.ensures);
      utf8 = c.hold.ensures.utf8;
      waits = λ g. none_ready _ none;
      last = last_none _ _ none;
      settings = c.starve.ensures.settings ∙ c.release.ensures.settings;
    }

pub lay_out-requires-clause-going : goal.lay_out-requires-clause-going
lay_out-requires-clause-going c = sym c.is_going.ensures ∙ c.if-not-is_going.false
