use Rattle.std.proofs.Common.{◌∙◌, ap}
use Rattle.yaml_emit_core.specs.Levels.{phase_of}
use Rattle.yaml_emit_core.proofs.Fresh.{fresh_core, stood, resumes, stage_outside}
use Rattle.yaml_emit_core.proofs.emitter.Core.resumed.Goals as goal

pub resumed-requires-2-clause-outside : goal.resumed-requires-2-clause-outside
resumed-requires-2-clause-outside c = ap phase_of c.stage_in.ensures ∙ stage_outside c.args.stand.place

pub resumed-requires-2-clause-narrow : goal.resumed-requires-2-clause-narrow
resumed-requires-2-clause-narrow c = c.requires.stand.narrow

pub invariant_of-result : goal.invariant_of-result
invariant_of-result c = fresh_core _ _ _ _ _ _ _ _ _ _ c.requires.step c.resumed.ensures.output c.resumed.ensures.set c.new.ensures

pub returns : goal.returns
returns c =
    resumes c.args.settings c.args.limit c.args.stand c.args.outer.items _ _ c.resumed.result c.new.result c.resumed-2.result _ _ c.resumed.ensures.output c.new.ensures
    (c.resumed-2.ensures ∙ ap (stood c.args.stand.innermost c.args.outer.items) c.stage_in.ensures)
    c.requires.stand c.unended_in.ensures c.refused_in.ensures c.in_ok-directives.ensures
