use Rattle.std.proofs.Common.{ap, ◌∙◌}
use Rattle.yaml_emit_layout.specs.Quoted.{quoted_body}
use Rattle.yaml_emit_scalars.proofs.LaysLemmas.{lays_then, walk_more, walk_end, on_still}
use Rattle.yaml_emit_scalars.proofs.RunWalks.{quoted_runs}
use Rattle.yaml_emit_scalars.proofs.quoted.put_quoted_body.Goals as goal

pub split_first-requires-text-text : goal.split_first-requires-text-text
split_first-requires-text-text c = λ _. c.loop-c.invariant.0

pub put_quoted_char-requires : goal.put_quoted_char-requires
put_quoted_char-requires c = on_still _ _ _ _ _ c.requires c.loop-c.invariant.1

pub loop-c-init : goal.loop-c-init
loop-c-init c = (c.put_run-last.ensures.utf8, c.put_run-last.ensures.text (quoted_body c.args.page) (quoted_runs c.args.page _ _ _ c.quoted_in-body.ensures c.requires.width))

pub loop-c-preserved : goal.loop-c-preserved
unfolding quoted_body
loop-c-preserved c =
    let body = quoted_body c.args.page in
    let on = on_still _ _ _ _ _ c.requires c.loop-c.invariant.1 in (
      c.put_run-latest.ensures.utf8,
      lays_then _ _ _ _ _ _ (walk_more _ _ _ _ _ _ _ (ap (body c.loop-c.last) c.in-Some.ensures.letters) c.loop-c.invariant.1 c.put_quoted_char.ensures)
          (c.put_run-latest.ensures.text body (quoted_runs c.args.page _ _ _ c.quoted_in-body.ensures (c.put_quoted_char.ensures.width ∙ on.width))),
    )

pub returns : goal.returns
unfolding quoted_body
returns c = walk_end _ _ _ _ (ap (quoted_body c.args.page c.loop-c.last) c.in_default.ensures.letters) c.loop-c.invariant.1
