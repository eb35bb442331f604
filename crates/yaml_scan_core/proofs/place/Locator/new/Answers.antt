use Rattle.std.proofs.Common.{arith}
use Rattle.yaml_scan_core.proofs.ToldLemmas.{located_start}
use Rattle.yaml_scan_core.proofs.place.Locator.new.Goals as goal

pub returns : goal.returns
returns c = λ text. record { inside = omega arith; mark = located_start text }
