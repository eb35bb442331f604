use Rattle.std.proofs.Common.{sym, ap, ◌∙◌, ◌∷◌}
use Rattle.std.proofs.lemmas.Bool.{and_parts}
use Rattle.yaml_emit_machine.specs.Held.{oldest_event}
use Rattle.yaml_emit_machine.proofs.Holding.{one_less, oldest_first, some_released, released_ready, last_less}
use Rattle.yaml_emit_machine.proofs.Following.{lays_oldest}
use Rattle.yaml_emit_machine.proofs.release.release.Goals as goal

pub loop-held-preserved : goal.loop-held-preserved
loop-held-preserved c =
    let due = and_parts _ _ (sym c.is_due.ensures.is ∙ c.loop-held-test.true) in
    let same = oldest_first c.loop-held.held (some_released _ _ due.0) in
    let behind = same ∙ ap (λ z. oldest_event c.loop-held.held ∷ z) (sym c.lay_oldest.ensures.events) in
    record {
      lays = lays_oldest _ _ _ _ _ _ _ _ _ c.loop-held.invariant.lays same c.lay_oldest.ensures.events due.1 (released_ready _ _ due.0) c.lay_oldest.ensures.laid;
      utf8 = c.lay_oldest.ensures.utf8;
      last = last_less _ _ _ _ c.loop-held.invariant.last behind;
      settings = c.lay_oldest.ensures.laid.settings ∙ c.loop-held.invariant.settings;
      short = λ off. one_less c.loop-held.held _ _ behind;
    }

pub lay_oldest-requires-clause-going : goal.lay_oldest-requires-clause-going
lay_oldest-requires-clause-going c = (and_parts _ _ (sym c.is_due.ensures.is ∙ c.loop-held-test.true)).1
