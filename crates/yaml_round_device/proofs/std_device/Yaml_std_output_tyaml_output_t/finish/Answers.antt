-- Not searched for, so that a wrong value fails by its type, at once.
use Rattle.yaml_round_device.proofs.Failing.{failed_by, finished_by}
use Rattle.yaml_round_device.proofs.std_device.Yaml_std_output_tyaml_output_t.finish.Goals as goal

pub returns-clause-finished : goal.returns-clause-finished
returns-clause-finished g c = finished_by c.flush_tried_again-flushed.result c.is_ok-self.result c.is_ok-self.ensures.value

pub returns-clause-failure : goal.returns-clause-failure
returns-clause-failure g c = failed_by c.flush_tried_again-flushed.result c.args.self.now.has_failed c.is_err.result c.is_err.ensures.value
