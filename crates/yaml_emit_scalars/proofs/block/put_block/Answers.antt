use Rattle.std.proofs.Common.{◌∙◌}
use Rattle.yaml_emit_scalars.proofs.LaysLemmas.{lays_both, on_still}
use Rattle.yaml_emit_output.proofs.Pages.{lays_break}
use Rattle.yaml_emit_scalars.proofs.block.put_block.Goals as goal

pub put_block_body-requires : goal.put_block_body-requires
put_block_body-requires c = on_still _ _ _ _ _ (on_still _ _ _ _ _ c.requires c.put_header.ensures) c.put_new_line.ensures

pub returns : goal.returns
returns c =
    let feed = lays_break _ c.args.page.line_break _ _ (c.put_header.ensures.line_break ∙ c.requires.line_break) c.put_new_line.ensures in
    lays_both _ _ _ _ _ c.put_header.ensures (lays_both _ _ _ _ _ feed (lays_both _ _ _ _ _ c.put_block_body.ensures c.set_after_block.ensures))
