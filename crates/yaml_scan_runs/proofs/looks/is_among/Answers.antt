use Rattle.std.proofs.Common.{[], ltb, eqb, ◌||◌, bit_or, refl}
use Rattle.std.proofs.lemmas.Bool.{agree_below_at}
use Rattle.yaml_scan_runs.specs.Runs.{is_stop}
use Rattle.yaml_scan_runs.proofs.looks.is_among.Goals as goal

pub stops-init : goal.stops-init
stops-init g c = agree_below_at (λ x. ltb x 32 || eqb (bit_or x 32) 226) (λ x. is_stop [] x) 256 c.args.byte refl c.ranges.byte.fits
