use Rattle.std.proofs.Common.{◌≡◌, ◌+◌, ◌-◌, ◌<◌, ap, sym, ◌∙◌, arith, inl, inr}
use Rattle.std.proofs.lemmas.Bool.{not-false, not-true, false≢true}
use Rattle.std.proofs.Math.Nat.{eq-or-lt_of_le}
use Rattle.yaml_scan_types.specs.Marks.{byte}
use Rattle.yaml_scan_decode.specs.Steps.{is_plain, outcome_at}
use Rattle.yaml_scan_decode.proofs.CommonLemmas.{unplain_is}
use Rattle.yaml_scan_decode.proofs.SpellingLemmas.{checks_run}
use Rattle.yaml_scan_decode.proofs.utf8.check_utf8.Goals as goal

pub others-init : goal.others-init
others-init c =
    let bytes = c.args.bytes.now in
    let run = c.plain_end-at.ensures in
    let end : c.runs.at + (c.plain_end-at.result - c.runs.at) ≡ c.plain_end-at.result = omega (arith, run.ordered) in
    let plain = checks_run (c.plain_end-at.result - c.runs.at) bytes c.runs.at (omega (arith, end, run.within))
    (λ j low high. not-false _ (sym (unplain_is (byte bytes j)) ∙ run.passed j low (omega (arith, high, end)))) in
    (c.runs.invariant ∙ plain ∙ ap (outcome_at bytes) end, omega arith)

-- where the run of plain characters ends at once, there is another one, and that is passed
pub runs-smaller-else-not-is_plain : goal.runs-smaller-else-not-is_plain
runs-smaller-else-not-is_plain c =
    let bytes = c.args.bytes.now in
    let run = c.plain_end-at.ensures in
    let moved : c.plain_end-at.result < c.others.at =
    elim (eq-or-lt_of_le c.others.invariant.1) [
      | inl still ↦
          let stops = run.stopped (omega (arith, still, c.others-test.true)) in
          absurd (false≢true (sym (not-true _ (sym (unplain_is (byte bytes c.plain_end-at.result)) ∙ stops)) ∙ ap (λ k. is_plain (byte bytes k)) still ∙ sym c.is_plain.ensures ∙ c.if-not-is_plain.false))
      | inr past ↦ past
    ] in
    omega (arith, run.ordered, moved, c.others-test.true)
