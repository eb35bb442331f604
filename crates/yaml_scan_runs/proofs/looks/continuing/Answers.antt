use Rattle.std.proofs.Common.{◌≡◌, ◌+◌, ◌-◌, ap, ◌∙◌, arith}
use Rattle.std.specs.List.{count_by, slice_range}
use Rattle.std.specs.Int.RustNames.{count_ones}
use Rattle.yaml_scan_runs.specs.Runs.{is_continuing}
use Rattle.yaml_scan_runs.proofs.Counts.{count_few, count_look, count_first, count_byte}
use Rattle.yaml_scan_runs.proofs.looks.continuing.Goals as goal

pub overflow_add-count : goal.overflow_add-count
overflow_add-count c =
    let text = c.args.text.now in
    let kept = c.looks.invariant in
    let more = count_look is_continuing text c.args.from c.looks.at kept.0 c.continue_among.result c.continue_among.ensures in
    let few = count_few is_continuing text c.args.from (c.looks.at + 16) (omega arith) in
    record { fits = omega (arith, kept.2, more, few, c.ranges.to.fits) }

pub looks-preserved : goal.looks-preserved
looks-preserved c =
    let kept = c.looks.invariant in
    let more = count_look is_continuing c.args.text.now c.args.from c.looks.at kept.0 c.continue_among.result c.continue_among.ensures in
    (omega arith, omega arith, ap (λ n. n + count_ones c.continue_among.result) kept.2 ∙ more)

pub overflow_add-result : goal.overflow_add-result
overflow_add-result c =
    let text = c.args.text.now in
    let kept = c.looks.invariant in
    let there : c.looks.at + (c.args.to - c.looks.at) ≡ c.args.to = omega arith in
    let all = count_first is_continuing text c.args.from c.looks.at (c.args.to - c.looks.at) c.continue_among-all.result kept.0 (omega arith) (omega arith) c.continue_among-all.ensures in
    let few = count_few is_continuing text c.args.from c.args.to c.requires.0 in
    record { fits = omega (arith, kept.2, all, ap (λ k. count_by is_continuing (slice_range text c.args.from k)) there, few, c.ranges.to.fits) }

pub returns-then-text-at-ge-LANES : goal.returns-then-text-at-ge-LANES
returns-then-text-at-ge-LANES c =
    let text = c.args.text.now in
    let kept = c.looks.invariant in
    let there : c.looks.at + (c.args.to - c.looks.at) ≡ c.args.to = omega arith in
    let all = count_first is_continuing text c.args.from c.looks.at (c.args.to - c.looks.at) c.continue_among-all.result kept.0 (omega arith) (omega arith) c.continue_among-all.ensures in
    omega (arith, kept.2, all, ap (λ k. count_by is_continuing (slice_range text c.args.from k)) there)

pub bytes-preserved : goal.bytes-preserved
bytes-preserved c =
    let kept = c.bytes.invariant in
    let more = count_byte c.args.text.now c.args.from c.bytes.at kept.0 (omega arith) (c.type_inv.text c.bytes.at).fits in
    (omega arith, omega arith, omega (arith, kept.2, more))
