use Rattle.std.proofs.Common.{refl, false}
use Rattle.yaml_emit_layout.specs.declared.cursor.Cursor.{Cursor}
use Rattle.yaml_emit_output.proofs.Pages.{writes_moved}
use Rattle.yaml_emit_output.proofs.draft.Draft.set_after_text.Goals as goal

pub returns : goal.returns
returns c =
    let s = c.self.inside in
    let f : Cursor → Cursor = λ k. record { column = k.column; white = false; bare = false; kept = k.kept } in
    rw (← c.self.view_is) (writes_moved s false false f refl)
