use Rattle.std.proofs.Common.{rules, ◌≡◌, ◌+◌, ◌-◌, length, true, arith}
use Rattle.std.specs.Prelude.{not}
use Rattle.yaml_emit_layout.specs.Layout.{gap}
use Rattle.yaml_scan_runs.specs.Placed.{due_byte}
use Rattle.yaml_emit_output.proofs.Puts.{utf8_gap, gap_placed, few_due}
use Rattle.yaml_emit_output.proofs.Pages.{writes_placed, lays_asked, lays_refused, draft_placed}
use Rattle.yaml_emit_output.proofs.draft.Draft.put_gap.Goals as goal

pub returns-then-has_room : goal.returns-then-has_room
returns-then-has_room c =
    let s = c.self.inside in
    let room = rw (← c.self.view_is) at (c.has_room.ensures.room c.if-has_room.true).0 in
    let value = c.as_mut_slice.ensures.value in
    let end = c.place_if-self-inside.result in
    let buf = c.place_if-self-inside.new.buf in
    let placed = c.place_if-self-inside.ensures in
    let column : s.before + (end - s.origin) ≡ s.before + (s.len - s.origin) + (end - s.len) = omega (arith, c.self.invariant.origin, placed.moved) in
    let count : s.before + (end - s.origin) ≡ s.before + (s.len - s.origin) + length (due_byte (not s.white) 32) = omega (arith, column, placed.moved) in
    lays_asked _ _ _ _ s c.self.view_is c.has_room.ensures.puts c.has_room.ensures.set (writes_placed s _ buf end s.origin s.before true s.bare gap _ 1 c.self.invariant (omega (arith, room)) value placed (search rules) (few_due (not s.white) 32)
    (gap_placed (s.before + (end - s.origin)) _ count))

pub invariant_of-self : goal.invariant_of-self
invariant_of-self c =
    let s = c.self.inside in
    let room = rw (← c.self.view_is) at (c.has_room.ensures.room c.if-has_room.true).0 in
    let value = c.as_mut_slice.ensures.value in
    let end = c.place_if-self-inside.result in
    let buf = c.place_if-self-inside.new.buf in
    let placed = c.place_if-self-inside.ensures in
    let column : s.before + (end - s.origin) ≡ s.before + (s.len - s.origin) + (end - s.len) = omega (arith, c.self.invariant.origin, placed.moved) in
    let count : s.before + (end - s.origin) ≡ s.before + (s.len - s.origin) + length (due_byte (not s.white) 32) = omega (arith, column, placed.moved) in
    draft_placed s _ buf end s.origin s.before true s.bare _ 1 c.self.invariant (omega (arith, room)) value placed (few_due (not s.white) 32) (utf8_gap (not s.white)) (omega (arith, c.self.invariant.origin, placed.moved)) (search rules)

pub returns-else-has_room : goal.returns-else-has_room
returns-else-has_room c = lays_refused _ _ _ c.has_room.ensures.puts c.has_room.ensures.set (c.has_room.ensures.stopped c.if-has_room.false)
