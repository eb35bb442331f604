-- Where some byte is needed, and none is taken, the call fails.
use Rattle.std.proofs.Common.{sym, ◌∙◌}
use Rattle.std.proofs.lemmas.Bool.{false≢true}
use Rattle.yaml_round_device.proofs.trying.write_tried_again.Goals as goal

pub returns-in-Ok-eq0-clause-some : goal.returns-in-Ok-eq0-clause-some
returns-in-Ok-eq0-clause-some g c = λ needed _. absurd (false≢true (sym c.if-needs_some.false ∙ needed))
