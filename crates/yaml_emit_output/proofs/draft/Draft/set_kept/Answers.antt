use Rattle.std.proofs.Common.{refl}
use Rattle.yaml_emit_layout.specs.declared.cursor.Cursor.{Cursor}
use Rattle.yaml_emit_layout.specs.Sink.{Output}
use Rattle.yaml_emit_layout.proofs.Sinks.{puts_moved}
use Rattle.yaml_emit_output.specs.Draft.{page_of}
use Rattle.yaml_emit_output.proofs.draft.Draft.set_kept.Goals as goal

pub returns : goal.returns
returns c =
    let s = c.self.inside in
    let a : Output = (page_of s).output in
    let f : Cursor → Cursor = λ k. record { column = k.column; white = k.white; bare = k.bare; kept = c.args.kept } in
    let b : Output = record { bytes = a.bytes; limit = a.limit; encoding = a.encoding; status = a.status; cursor = f a.cursor } in
    rw (← c.self.view_is) (record { owes = puts_moved a b f refl refl refl refl refl; line_break = refl; width = refl })
