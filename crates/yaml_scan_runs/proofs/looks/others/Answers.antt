use Rattle.std.proofs.Common.{ℕ, ◌≤◌, length, eqb, not, cond, bit_and, ap₂, ◌∙◌, arith}
use Rattle.std.proofs.lemmas.Simd.{zip2_splat}
use lib.Lanes.{zip2}
use Rattle.yaml_scan_runs.specs.Runs.{is_neither}
use Rattle.yaml_scan_runs.proofs.Lanes.{neither_set, mask_set}
use Rattle.yaml_scan_runs.proofs.looks.others.Goals as goal

pub returns : goal.returns
returns c =
    let v = c.args.lanes in
    let long = c.fits-lanes.0 in
    let short : length v ≤ 64 = omega (arith, long) in
    let no = λ (x y : ℕ). cond (not (eqb x y)) 255 0 in
    mask_set (is_neither c.args.a c.args.b) v _ short
    (ap₂ (zip2 bit_and) (zip2_splat {Y = ℕ} no v 16 c.args.a long) (zip2_splat {Y = ℕ} no v 16 c.args.b long) ∙ neither_set (λ x. eqb x c.args.a) (λ x. eqb x c.args.b) v)
