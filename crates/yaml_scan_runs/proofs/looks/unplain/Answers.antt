use Rattle.std.proofs.Common.{ℕ, ◌≤◌, length, ◌+◌, ◌-◌, ◌%◌, eqb, ltb, cond, bit_or, refl, ap, ◌∙◌, arith, map}
use Rattle.std.proofs.lemmas.Simd.{zip2_splat, zip2_of_maps, splat_is_map, map-map}
use Rattle.yaml_scan_runs.specs.Runs.{is_unplain}
use Rattle.yaml_scan_runs.proofs.Lanes.{lanes_set, mask_set}
use Rattle.yaml_scan_runs.proofs.looks.unplain.Goals as goal

pub returns : goal.returns
returns c =
    let v = c.args.lanes in
    let long = c.fits-lanes.0 in
    let short : length v ≤ 64 = omega (arith, long) in
    let hit = λ (x y : ℕ). cond (eqb x y) 255 0 in
    let printed = zip2_of_maps (λ a b. cond (ltb a b) 255 0) _ _ v (zip2_splat {Y = ℕ} (λ a b. (a + (256 - b)) % 256) v 16 32 long) (splat_is_map v 16 95 long) in
    let blank = zip2_of_maps bit_or _ _ v (zip2_of_maps bit_or _ _ v (zip2_splat {Y = ℕ} hit v 16 10 long) (zip2_splat {Y = ℕ} hit v 16 13 long)) (zip2_splat {Y = ℕ} hit v 16 9 long) in
    let both = zip2_of_maps bit_or _ _ v printed blank in
    mask_set is_unplain v _ short (ap (map (λ x. 255 - x)) both ∙ map-map (λ x. 255 - x) _ v ∙ lanes_set _ is_unplain refl v c.fits-lanes.1)
