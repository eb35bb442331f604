use Rattle.std.proofs.Common.{rules, ◌≡◌, ◌+◌, ◌-◌, arith}
use Rattle.std.specs.Prelude.{◌==◌, ◌||◌}
use Rattle.yaml_emit_layout.specs.Layout.{◌▹◌, when, char, line}
use Rattle.yaml_emit_output.specs.Draft.{line_mark}
use Rattle.yaml_scan_runs.proofs.Places.{Placed-then}
use Rattle.yaml_emit_output.proofs.Puts.{utf8_line, line_placed, line_length}
use Rattle.yaml_emit_output.proofs.Pages.{writes_placed, lays_asked, lays_refused, draft_placed, break_still, lays_lined}
use Rattle.yaml_emit_output.proofs.draft.Draft.put_line.Goals as goal

pub returns-then-has_room : goal.returns-then-has_room
returns-then-has_room c =
    let s = c.self.inside in
    let room = rw (← c.self.view_is) at (c.has_room.ensures.room c.if-has_room.true).0 in
    let mark = c.args.mark in
    let breaks = c.breaks-breaks.result in
    let count = c.blanks_due-count.result in
    let from = c.place_blanks-at.result in
    let end = c.place_mark-self-inside.result in
    let buf = c.place_mark-self-inside.new.buf in
    let placed = Placed-then (Placed-then (Placed-then c.place_if-at.ensures c.place_broken-at.ensures) c.place_blanks-at.ensures) c.place_mark-self-inside.ensures in
    let value = c.as_mut_slice-buf.ensures.value in
    let due = rw (← c.self.view_is) at c.breaks-breaks.ensures.due in
    let blanks = rw (← c.self.view_is) at (rw c.column.ensures at c.blanks_due-count.ensures) in
    lays_lined s.line_break _ c.args.comma c.args.block c.args.indent mark _ _ (break_still s c.args.self.now c.has_room.new.self c.self.view_is c.has_room.ensures.set) (lays_asked _ _ _ _ s c.self.view_is c.has_room.ensures.puts c.has_room.ensures.set (writes_placed s _ buf end from c.args.indent (mark == 0) ((mark == 0) || c.args.block) (when c.args.comma (char 44) ▹ (line s.line_break c.args.indent ▹ line_mark mark c.args.block)) _ (c.args.indent + 4) c.self.invariant (omega (arith, room)) value placed (search rules)
    (line_length s.line_break c.args.comma breaks c.args.indent mark count _ c.blanks_due-count.ensures)
    (line_placed s.line_break c.args.comma breaks c.args.block c.args.indent mark count (c.args.indent + (end - from)) _ c.requires.mark due blanks (omega (arith, c.place_mark-self-inside.ensures.moved)))))

pub invariant_of-self : goal.invariant_of-self
invariant_of-self c =
    let s = c.self.inside in
    let room = rw (← c.self.view_is) at (c.has_room.ensures.room c.if-has_room.true).0 in
    let mark = c.args.mark in
    let breaks = c.breaks-breaks.result in
    let count = c.blanks_due-count.result in
    let from = c.place_blanks-at.result in
    let end = c.place_mark-self-inside.result in
    let buf = c.place_mark-self-inside.new.buf in
    let placed = Placed-then (Placed-then (Placed-then c.place_if-at.ensures c.place_broken-at.ensures) c.place_blanks-at.ensures) c.place_mark-self-inside.ensures in
    let value = c.as_mut_slice-buf.ensures.value in
    let due = rw (← c.self.view_is) at c.breaks-breaks.ensures.due in
    let blanks = rw (← c.self.view_is) at (rw c.column.ensures at c.blanks_due-count.ensures) in
    draft_placed s _ buf end from c.args.indent (mark == 0) ((mark == 0) || c.args.block) _ (c.args.indent + 4) c.self.invariant (omega (arith, room)) value placed (line_length s.line_break c.args.comma breaks c.args.indent mark count _ c.blanks_due-count.ensures) (utf8_line s.line_break c.args.comma breaks count mark c.requires.mark) (omega (arith, c.place_mark-self-inside.ensures.moved)) (search rules)

pub returns-else-has_room : goal.returns-else-has_room
returns-else-has_room c = lays_refused _ _ _ c.has_room.ensures.puts c.has_room.ensures.set (c.has_room.ensures.stopped c.if-has_room.false)
