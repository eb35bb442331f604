-- Not searched for, so that a wrong value fails by its type, at once.
use Rattle.std.proofs.Common.{refl, length}
use Rattle.yaml_round_device.proofs.Failing.{failed_by, some_by}
use Rattle.yaml_round_device.proofs.std_device.Yaml_std_output_tyaml_output_t.put.Goals as goal

pub returns-then-is_empty-clause-nothing : goal.returns-then-is_empty-clause-nothing
returns-then-is_empty-clause-nothing g c = λ _. (refl, refl)

pub returns-then-is_empty-clause-failure : goal.returns-then-is_empty-clause-failure
returns-then-is_empty-clause-failure g c = refl

pub returns-clause-failure : goal.returns-clause-failure
returns-clause-failure g c = failed_by c.write_tried_again-taken.result c.args.self.now.has_failed c.is_err.result c.is_err.ensures.value

pub returns-clause-some : goal.returns-clause-some
returns-clause-some g c = some_by c.write_tried_again-taken.result (length c.args.piece.now) c.write_tried_again-taken.ensures.some
