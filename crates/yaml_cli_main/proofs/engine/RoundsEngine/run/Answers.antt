use Rattle.std.proofs.Common.{ap}
use Rattle.yaml_cli_main.proofs.engine.RoundsEngine.run.Goals as goal

pub returns : goal.returns
returns g c = (_, rw (ap (λ r. r.now) c.new-input.ensures.inner, ap (λ r. r.now) c.new-output.ensures.inner) at c.yaml_run.ensures.runs)
