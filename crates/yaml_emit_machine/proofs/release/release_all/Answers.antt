use Rattle.std.proofs.Common.{sym, ◌∙◌}
use Rattle.yaml_emit_machine.proofs.Holding.{oldest_first}
use Rattle.yaml_emit_machine.proofs.Following.{on_oldest}
use Rattle.yaml_emit_machine.proofs.release.release_all.Goals as goal

pub lay_oldest-requires-clause-going : goal.lay_oldest-requires-clause-going
lay_oldest-requires-clause-going c = c.loop-held.invariant.going

pub loop-held-preserved : goal.loop-held-preserved
loop-held-preserved c =
    let same = oldest_first c.loop-held.held (sym c.holds_any.ensures.some ∙ c.loop-held-test.true) in
    record {
      lays = on_oldest _ _ _ _ _ _ _ _ _ c.loop-held.invariant.lays same c.lay_oldest.ensures.events c.loop-held.invariant.going c.lay_oldest.ensures.laid;
      utf8 = c.lay_oldest.ensures.utf8;
      settings = c.lay_oldest.ensures.laid.settings ∙ c.loop-held.invariant.settings;
      going = sym c.is_going.ensures ∙ c.if-not-is_going.false;
    }

pub returns-then-not-is_going-clause-lays : goal.returns-then-not-is_going-clause-lays
returns-then-not-is_going-clause-lays c =
    let same = oldest_first c.loop-held.held (sym c.holds_any.ensures.some ∙ c.loop-held-test.true) in
    on_oldest _ _ _ _ _ _ _ _ _ c.loop-held.invariant.lays same c.lay_oldest.ensures.events c.loop-held.invariant.going c.lay_oldest.ensures.laid
