-- How many bytes were taken.
use Rattle.std.proofs.Common.{arith, rules, refl, sym, ap, ◌∙◌, ◌+◌, ◌≡◌, ◌≤◌, length, ℕ}
use Rattle.yaml_round_device.specs.Counts.{counted}
use Rattle.yaml_round_device.proofs.Counting.{counted_none, counted_more}
use Rattle.yaml_round_device.proofs.reading.read_to_end.Goals as goal

pub loop-count-init : goal.loop-count-init
loop-count-init g c =
    let none : length c.new-bytes.result.items ≡ 0 = ap length c.new-bytes.ensures.items in
    let before : ℕ = g.I.yaml_input_t.given c.args.input.now in
    record {
      taken = search rules;
      room = omega (arith, none);
      count = counted_none before ∙ ap (λ (n : ℕ). counted before n) (sym none);
      sound = refl;
    }

pub returns-then-is_err-clause-few : goal.returns-then-is_err-clause-few
returns-then-is_err-clause-few g c =
    let before : ℕ = g.I.yaml_input_t.given c.args.input.now in
    let had : ℕ = length c.loop-count.bytes.items in
    let within : had + c.in-Ok.count ≤ c.args.input_limit = omega (arith, c.loop-count.invariant.room) in
    (had + c.in-Ok.count, within, c.in-Ok.ensures.count ∙ ap (λ (n : ℕ). counted n c.in-Ok.count) c.loop-count.invariant.count ∙ counted_more before had c.in-Ok.count)
