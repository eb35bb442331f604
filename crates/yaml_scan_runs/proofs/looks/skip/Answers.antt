use Rattle.std.proofs.Common.{◌+◌, ◌≡◌, ◌≤◌, length, min, inl, arith}
use Rattle.std.proofs.lemmas.Simd.{length-chunk}
use lib.Lanes.{chunk}
use Rattle.yaml_scan_runs.specs.Runs.{is_neither}
use Rattle.yaml_scan_runs.proofs.Stops.{look_is, run_short, run_behind}
use Rattle.yaml_scan_runs.proofs.looks.skip.Goals as goal

pub returns-then-end-from : goal.returns-then-end-from
returns-then-end-from c =
    let text = c.args.text.now in
    let from = c.args.from in
    let room : from + 16 ≤ length text = omega arith in
    let test = is_neither c.args.a c.args.b in
    let run = look_is test text from c.leading.result room (c.leading.ensures test (chunk from 16 text) (length-chunk from 16 text room) c.others.ensures) in
    let here : min (from + c.leading.result) (length text) ≡ from + c.leading.result = omega (arith, run.within) in
    rw here at (run_short (length text) c.requires (inl c.if-end-from.true) run)

pub skip_on-requires-2 : goal.skip_on-requires-2
skip_on-requires-2 c =
    let text = c.args.text.now in
    let from = c.args.from in
    let room : from + 16 ≤ length text = omega arith in
    let test = is_neither c.args.a c.args.b in
    let run = look_is test text from c.leading.result room (c.leading.ensures test (chunk from 16 text) (length-chunk from 16 text room) c.others.ensures) in
    omega (arith, run.within)

pub returns : goal.returns
returns c =
    let text = c.args.text.now in
    let from = c.args.from in
    let room : from + 16 ≤ length text = omega arith in
    let test = is_neither c.args.a c.args.b in
    let run = look_is test text from c.leading.result room (c.leading.ensures test (chunk from 16 text) (length-chunk from 16 text room) c.others.ensures) in
    run_behind run.ordered run.passed c.skip_on-2.ensures
