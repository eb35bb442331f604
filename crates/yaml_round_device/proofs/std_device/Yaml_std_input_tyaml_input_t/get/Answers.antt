-- Not searched for, so that a wrong value fails by its type, at once.
use Rattle.yaml_round_device.proofs.Failing.{failed_by}
use Rattle.yaml_round_device.proofs.std_device.Yaml_std_input_tyaml_input_t.get.Goals as goal

pub returns-clause-failure : goal.returns-clause-failure
returns-clause-failure g c = failed_by c.read_tried_again-got.result c.args.self.now.has_failed c.is_err.result c.is_err.ensures.value
