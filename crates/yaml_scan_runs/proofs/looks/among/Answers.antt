use Rattle.std.proofs.Common.{ℕ, ◌≡◌, eqb, cond, take, bit_or, get_or, ap, ◌∙◌, arith, take_all, refl}
use Rattle.std.proofs.lemmas.Simd.{zip2_splat, zip2_of_maps, splat_is_map}
use lib.Lanes.{zip2}
use Rattle.yaml_scan_runs.proofs.Lanes.{lanes_set, mask_set, stops_more}
use Rattle.yaml_scan_runs.specs.Runs.{is_stop}
use Rattle.yaml_scan_runs.proofs.looks.among.Goals as goal

pub stops-init : goal.stops-init
stops-init g c =
    let v = c.args.lanes in
    let long = c.fits-lanes.0 in
    zip2_of_maps bit_or _ _ v (zip2_splat {Y = ℕ} _ v 16 32 long)
    (zip2_of_maps (λ a b. cond (eqb a b) 255 0) _ _ v (zip2_splat {Y = ℕ} bit_or v 16 32 long) (splat_is_map v 16 226 long))
    ∙ lanes_set _ (is_stop (take 0 c.args.stops.now)) refl v c.fits-lanes.1

pub stops-preserved : goal.stops-preserved
stops-preserved g c =
    let v = c.args.lanes in
    let list = c.args.stops.now in
    let i = c.stops.i in
    ap (λ l. zip2 bit_or c.stops.found l) (zip2_splat {Y = ℕ} (λ a b. cond (eqb a b) 255 0) v 16 (get_or list i 0) c.fits-lanes.0)
    ∙ stops_more list v i (omega (arith, c.told-stops)) c.stops.invariant

pub returns : goal.returns
returns g c =
    let list = c.args.stops.now in
    let whole : take c.stops.i list ≡ list = take_all c.stops.i list (omega (arith, c.told-stops)) in
    mask_set (is_stop list) c.args.lanes c.stops.found (omega (arith, c.fits-lanes.0)) (rw whole at c.stops.invariant)
