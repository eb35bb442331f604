use Rattle.std.proofs.Common.{rules, ◌≡◌, ◌+◌, ◌-◌, true, arith, encode_utf8}
use Rattle.yaml_emit_layout.specs.Layout.{break}
use Rattle.yaml_emit_output.proofs.Puts.{ending_placed, few_bytes}
use Rattle.yaml_emit_output.proofs.Pages.{writes_placed, lays_asked, lays_refused, draft_placed}
use Rattle.yaml_emit_output.proofs.draft.Draft.put_break.Goals as goal

pub returns-then-has_room : goal.returns-then-has_room
returns-then-has_room c =
    let s = c.self.inside in
    let room = rw (← c.self.view_is) at (c.has_room.ensures.room c.if-has_room.true).0 in
    let x = c.args.c in
    let value = c.as_mut_slice.ensures.value in
    let end = c.place_text-self-inside.result in
    let buf = c.place_text-self-inside.new.buf in
    let placed = rw (c.as_bytes-ending.ensures.value, c.encode_utf8.ensures.value) at c.place_text-self-inside.ensures in
    let count : 0 + (end - end) ≡ 0 = omega arith in
    lays_asked _ _ _ _ s c.self.view_is c.has_room.ensures.puts c.has_room.ensures.set (writes_placed s _ buf end end 0 true true (break x) (encode_utf8 x) 4 c.self.invariant (omega (arith, room)) value placed (search rules) (few_bytes x).1
    (ending_placed x (0 + (end - end)) _ count))

pub invariant_of-self : goal.invariant_of-self
invariant_of-self c =
    let s = c.self.inside in
    let room = rw (← c.self.view_is) at (c.has_room.ensures.room c.if-has_room.true).0 in
    let x = c.args.c in
    let value = c.as_mut_slice.ensures.value in
    let end = c.place_text-self-inside.result in
    let buf = c.place_text-self-inside.new.buf in
    let placed = rw (c.as_bytes-ending.ensures.value, c.encode_utf8.ensures.value) at c.place_text-self-inside.ensures in
    let count : 0 + (end - end) ≡ 0 = omega arith in
    draft_placed s _ buf end end 0 true true _ 4 c.self.invariant (omega (arith, room)) value placed (few_bytes x).1 (rw c.encode_utf8.ensures.value at c.encode_utf8.utf8) (omega (arith, c.self.invariant.origin, placed.moved)) (search rules)

pub returns-else-has_room : goal.returns-else-has_room
returns-else-has_room c = lays_refused _ _ _ c.has_room.ensures.puts c.has_room.ensures.set (c.has_room.ensures.stopped c.if-has_room.false)
