use Rattle.std.proofs.Common.{ap, ◌∙◌}
use Rattle.yaml_emit_layout.specs.Scalars.{block_body}
use Rattle.yaml_emit_scalars.proofs.LaysLemmas.{lays_same, lays_then, walk_more, walk_end, on_still}
use Rattle.yaml_emit_scalars.proofs.RunWalks.{block_runs}
use Rattle.yaml_emit_scalars.proofs.block.put_block_body.Goals as goal

pub split_first-requires-text-text : goal.split_first-requires-text-text
split_first-requires-text-text c = λ _. c.loop-c.invariant.0

pub put_block_char-requires : goal.put_block_char-requires
put_block_char-requires c = on_still _ _ _ _ _ c.requires c.loop-c.invariant.1

pub loop-c-init : goal.loop-c-init
loop-c-init c = (c.utf8.value, lays_same _ _)

pub loop-c-preserved : goal.loop-c-preserved
unfolding block_body
loop-c-preserved c =
    let body = block_body c.args.page c.args.folded in
    let blank = c.line_blank-blank.result in
    let on = on_still _ _ _ _ _ c.requires c.loop-c.invariant.1 in
    let step = walk_more _ _ _ _ _ _ _ (ap (body c.loop-c.blank c.loop-c.before) c.in-Some.ensures.letters) c.loop-c.invariant.1 c.put_block_char.ensures in
    (c.put_run_or-last.ensures.utf8, lays_then _ _ _ _ _ _ (rw (← c.line_blank-blank.ensures) at step) (c.put_run_or-last.ensures.text (body blank) (block_runs c.args.page c.args.folded blank _ _ (c.put_block_char.ensures.width ∙ on.width))))

pub returns : goal.returns
unfolding block_body
returns c = walk_end _ _ _ _ (ap (block_body c.args.page c.args.folded c.loop-c.blank c.loop-c.before) c.in_default.ensures.letters) c.loop-c.invariant.1
