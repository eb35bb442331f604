use Rattle.yaml_emit_core.specs.Directives.{opening_of}
use Rattle.yaml_emit_core.proofs.Heads.{of_still, start_lays, start_state}
use Rattle.yaml_emit_core.proofs.openings.lay_document_start.Goals as goal

pub put_version-requires : goal.put_version-requires
put_version-requires c = of_still _ _ _ _ _ (of_still _ _ _ _ _ c.requires.on c.put_dots_if.ensures) c.set_kept.ensures

pub put_directives-requires : goal.put_directives-requires
put_directives-requires c = of_still _ _ _ _ _ (of_still _ _ _ _ _ (of_still _ _ _ _ _ c.requires.on c.put_dots_if.ensures) c.set_kept.ensures) c.put_version.ensures

pub put_dashes-requires : goal.put_dashes-requires
put_dashes-requires c = of_still _ _ _ _ _ (of_still _ _ _ _ _ (of_still _ _ _ _ _ (of_still _ _ _ _ _ c.requires.on c.put_dots_if.ensures) c.set_kept.ensures) c.put_version.ensures) c.put_directives.ensures

pub returns-clause-text : goal.returns-clause-text
returns-clause-text c = λ empty directives.
    start_lays _ c.args.levels.now c.args.unended _ _ empty c.args.settings.now directives (opening_of c.args.opening.now) _ _ _ _ _ _ c.requires.due c.top.ensures.state c.is_first-first.ensures c.is_directed-directed.ensures
    c.put_dots_if.ensures c.set_kept.ensures c.put_version.ensures c.put_directives.ensures c.put_dashes.ensures

pub returns-clause-state : goal.returns-clause-state
returns-clause-state c = λ after empty directives behind. start_state c.args.settings.now c.args.levels.now _ c.args.unended after empty directives (opening_of c.args.opening.now) behind c.turn.ensures
