use Rattle.std.proofs.Common.{ap, refl, ◌∙◌}
use Rattle.yaml_emit_layout.specs.Scalars.{flow_body}
use Rattle.yaml_emit_scalars.proofs.LaysLemmas.{lays_then, walk_more, on_still}
use Rattle.yaml_emit_scalars.proofs.RunWalks.{flow_runs}
use Rattle.yaml_emit_scalars.proofs.flow.put_flow_body.Goals as goal

pub split_first-requires-text-text : goal.split_first-requires-text-text
split_first-requires-text-text c = λ _. c.loop-c.invariant.0

pub put_flow_char-requires : goal.put_flow_char-requires
put_flow_char-requires c = on_still _ _ _ _ _ c.requires c.loop-c.invariant.1

pub put_line_if-requires : goal.put_line_if-requires
put_line_if-requires c = on_still _ _ _ _ _ c.requires c.loop-c.invariant.1

pub loop-c-init : goal.loop-c-init
loop-c-init c = (c.put_run-last.ensures.utf8, c.put_run-last.ensures.text (flow_body c.args.page c.args.quote) (flow_runs c.args.page c.args.quote _ 32 _ c.flow_in-body.ensures c.requires.width refl))

pub loop-c-preserved : goal.loop-c-preserved
unfolding flow_body
loop-c-preserved c =
    let body = flow_body c.args.page c.args.quote in
    let on = on_still _ _ _ _ _ c.requires c.loop-c.invariant.1 in (
      c.put_run_or-latest.ensures.utf8,
      lays_then _ _ _ _ _ _ (walk_more _ _ _ _ _ _ _ (ap (body c.loop-c.last) c.in-Some.ensures.letters) c.loop-c.invariant.1 c.put_flow_char.ensures)
          (c.put_run_or-latest.ensures.text body (flow_runs c.args.page c.args.quote _ _ _ c.flow_in-body.ensures (c.put_flow_char.ensures.width ∙ on.width))),
    )

pub returns : goal.returns
unfolding flow_body
returns c = walk_more _ _ _ _ _ _ _ (ap (flow_body c.args.page c.args.quote c.loop-c.last) c.in_default.ensures.letters) c.loop-c.invariant.1 (rw c.is_break.ensures at c.put_line_if.ensures)
