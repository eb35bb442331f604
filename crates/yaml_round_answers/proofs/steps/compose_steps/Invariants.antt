use Rattle.std.proofs.Common.{◌≡◌, drop}
use Rattle.yaml_round_answers.specs.Composing.{sketch_of, fresh_sketch, all_drawn}
use Rattle.yaml_round_answers.proofs.Composes.{put_before}
use Rattle.yaml_round_answers.proofs.steps.compose_steps.Given as goal

-- what the events so far came to, and what the others come to
abbrev pub invariant-loop-step : goal.invariant-loop-step
invariant-loop-step l = all_drawn l.bytes l.steps fresh_sketch
    ≡ put_before l.spots.items (all_drawn l.bytes (drop l.step-index l.steps) (sketch_of l.sketching))
