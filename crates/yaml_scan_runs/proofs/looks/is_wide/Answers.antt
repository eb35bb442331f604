use Rattle.std.proofs.Common.{ℕ, ◌≡◌, leb, cond, map, ap, sym, ◌∙◌, arith, take_all}
use Rattle.std.proofs.lemmas.Simd.{zip2_splat_left, none_from_empty_mask}
use lib.Lanes.{chunk, mask_l}
use Rattle.yaml_scan_runs.proofs.Lanes.{mask_set, none_set, is_small}
use Rattle.yaml_scan_runs.proofs.looks.is_wide.Goals as goal

pub returns : goal.returns
returns c = λ no k low small.
    let v = c.args.lanes in
    let long = c.fits-lanes.0 in
    let mask = mask_set (leb 128) v _ (omega (arith, long)) (zip2_splat_left {X = ℕ} (λ a b. cond (leb a b) 255 0) 128 16 v long) in
    let none : mask_l (map (leb 128) (chunk 0 16 v)) ≡ 0 = ap (λ l. mask_l (map (leb 128) l)) (take_all 16 v (omega (arith, long))) ∙ sym mask ∙ none_set _ no in
    is_small _ (none_from_empty_mask (leb 128) v 0 16 0 (omega (arith, long)) none k low small)
