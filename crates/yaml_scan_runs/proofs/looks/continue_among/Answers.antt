use Rattle.std.proofs.Common.{ℕ, eqb, cond, bit_and, refl, ◌∙◌, arith}
use Rattle.std.proofs.lemmas.Simd.{zip2_splat, zip2_of_maps, splat_is_map}
use Rattle.yaml_scan_runs.specs.Runs.{is_continuing}
use Rattle.yaml_scan_runs.proofs.Lanes.{lanes_set, mask_set}
use Rattle.yaml_scan_runs.proofs.looks.continue_among.Goals as goal

pub returns : goal.returns
returns c =
    let v = c.args.lanes in
    let long = c.fits-lanes.0 in
    mask_set is_continuing v _ (omega (arith, long))
    (zip2_of_maps (λ a b. cond (eqb a b) 255 0) _ _ v (zip2_splat {Y = ℕ} bit_and v 16 192 long) (splat_is_map v 16 128 long) ∙ lanes_set _ is_continuing refl v c.fits-lanes.1)
