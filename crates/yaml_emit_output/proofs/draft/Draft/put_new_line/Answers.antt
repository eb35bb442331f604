use Rattle.std.proofs.Common.{rules, ◌≡◌, ◌+◌, ◌-◌, true, arith}
use Rattle.yaml_emit_layout.specs.Layout.{new_line}
use Rattle.yaml_emit_output.specs.Placed.{break_bytes}
use Rattle.yaml_emit_output.proofs.Puts.{utf8_break, break_placed, few_break}
use Rattle.yaml_emit_output.proofs.Pages.{writes_placed, lays_asked, lays_refused, draft_placed, break_still, lays_break}
use Rattle.yaml_emit_output.proofs.draft.Draft.put_new_line.Goals as goal

pub returns-then-has_room : goal.returns-then-has_room
returns-then-has_room c =
    let s = c.self.inside in
    let room = rw (← c.self.view_is) at (c.has_room.ensures.room c.if-has_room.true).0 in
    let value = c.as_mut_slice.ensures.value in
    let end = c.place_break-self-inside.result in
    let buf = c.place_break-self-inside.new.buf in
    let placed = c.place_break-self-inside.ensures in
    let count : 0 + (end - end) ≡ 0 = omega arith in
    lays_break s.line_break _ _ _ (break_still s c.args.self.now c.has_room.new.self c.self.view_is c.has_room.ensures.set) (lays_asked _ _ _ _ s c.self.view_is c.has_room.ensures.puts c.has_room.ensures.set (writes_placed s _ buf end end 0 true true (new_line s.line_break) (break_bytes s.line_break) 2 c.self.invariant (omega (arith, room)) value placed (search rules) (few_break s.line_break)
    (break_placed s.line_break (0 + (end - end)) _ count)))

pub invariant_of-self : goal.invariant_of-self
invariant_of-self c =
    let s = c.self.inside in
    let room = rw (← c.self.view_is) at (c.has_room.ensures.room c.if-has_room.true).0 in
    let value = c.as_mut_slice.ensures.value in
    let end = c.place_break-self-inside.result in
    let buf = c.place_break-self-inside.new.buf in
    let placed = c.place_break-self-inside.ensures in
    let count : 0 + (end - end) ≡ 0 = omega arith in
    draft_placed s _ buf end end 0 true true _ 2 c.self.invariant (omega (arith, room)) value placed (few_break s.line_break) (utf8_break s.line_break) (omega (arith, c.self.invariant.origin, placed.moved)) (search rules)

pub returns-else-has_room : goal.returns-else-has_room
returns-else-has_room c = lays_refused _ _ _ c.has_room.ensures.puts c.has_room.ensures.set (c.has_room.ensures.stopped c.if-has_room.false)
