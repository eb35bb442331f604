use Rattle.std.proofs.Common.{◌∙◌}
use Rattle.yaml_round_reading.proofs.EscapesLemmas.{run_pushed, byte_pushed}
use Rattle.yaml_round_reading.proofs.escapes.push_escaped.Goals as goal

pub runs-preserved-in-Some : goal.runs-preserved-in-Some
runs-preserved-in-Some c = record {
  told = byte_pushed _ _ _ _ _ _ _ (run_pushed _ _ _ _ c.plain_end-end.ensures c.in_ok-extend_from_slice.ensures.items) c.in-Some.ensures.cases.0 c.in_ok-push_byte.ensures ∙ c.runs.invariant.told;
}

pub runs-preserved : goal.runs-preserved
runs-preserved c = record {
  told = run_pushed _ _ _ _ c.plain_end-end.ensures c.in_ok-extend_from_slice.ensures.items ∙ c.runs.invariant.told;
}
