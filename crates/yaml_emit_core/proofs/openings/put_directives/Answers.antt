use Rattle.yaml_parse_model.specs.Events.{directive_of}
use Rattle.yaml_emit_scalars.proofs.LaysLemmas.{lays_same}
use Rattle.yaml_emit_core.proofs.Heads.{of_still, directives_more, directives_all}
use Rattle.yaml_emit_core.proofs.openings.put_directives.Goals as goal

pub loop-directive-init : goal.loop-directive-init
loop-directive-init c = lays_same _ _

pub put_directive-requires : goal.put_directive-requires
put_directive-requires c = of_still _ _ _ _ _ c.requires c.loop-directive.invariant

pub loop-directive-preserved : goal.loop-directive-preserved
loop-directive-preserved c = directives_more directive_of _ _ _ _ _ _ _ c.loop-directive-test.true c.directive-item.is c.loop-directive.invariant c.put_directive.ensures

pub returns : goal.returns
returns c = directives_all directive_of _ _ _ _ _ c.loop-directive-test.false c.loop-directive.invariant
