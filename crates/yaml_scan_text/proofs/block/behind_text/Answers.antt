use Rattle.std.proofs.Common.{inl, inr, arith}
use Rattle.yaml_scan_text.proofs.TextLemmas.{break_within}
use Rattle.yaml_scan_text.proofs.block.behind_text.Goals as goal

pub overflow_add-at : goal.overflow_add-at
overflow_add-at c =
    elim (break_within c.args.text.now c.args.end) [
      | inl z ↦ omega arith
      | inr l ↦ omega arith
    ]
