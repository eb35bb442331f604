use Rattle.std.proofs.Common.{rules, ◌≡◌, ◌+◌, ◌-◌, ◌∷◌, [], arith}
use Rattle.yaml_emit_layout.specs.Text.{letter}
use Rattle.yaml_emit_layout.specs.Layout.{Layout}
use Rattle.yaml_emit_output.proofs.Puts.{mark_placed, utf8_order_mark}
use Rattle.yaml_emit_output.proofs.Pages.{writes_placed, lays_asked, lays_refused, draft_placed}
use Rattle.yaml_emit_output.proofs.draft.Draft.put_mark.Goals as goal

pub returns-then-has_room : goal.returns-then-has_room
returns-then-has_room c =
    let s = c.self.inside in
    let room = rw (← c.self.view_is) at (c.has_room.ensures.room c.if-has_room.true).0 in
    let value = c.as_mut_slice.ensures.value in
    let end = c.place_text-self-inside.result in
    let buf = c.place_text-self-inside.new.buf in
    let placed = c.place_text-self-inside.ensures in
    let origin = s.origin + 3 in
    let column : s.before + (end - origin) ≡ s.before + (s.len - s.origin) = omega (arith, c.self.invariant.origin, placed.moved) in
    let y : Layout = λ k rest. letter 0xFEFF ∷ rest k in
    lays_asked _ _ _ _ s c.self.view_is c.has_room.ensures.puts c.has_room.ensures.set (writes_placed s _ buf end origin s.before s.white s.bare y (0xEF ∷ 0xBB ∷ 0xBF ∷ []) 3 c.self.invariant (omega (arith, room)) value placed (search rules) (omega arith)
    (mark_placed (s.before + (end - origin)) _ column))

pub invariant_of-self : goal.invariant_of-self
invariant_of-self c =
    let s = c.self.inside in
    let room = rw (← c.self.view_is) at (c.has_room.ensures.room c.if-has_room.true).0 in
    let value = c.as_mut_slice.ensures.value in
    let end = c.place_text-self-inside.result in
    let buf = c.place_text-self-inside.new.buf in
    let placed = c.place_text-self-inside.ensures in
    let origin = s.origin + 3 in
    draft_placed s _ buf end origin s.before s.white s.bare _ 3 c.self.invariant (omega (arith, room)) value placed (omega arith) utf8_order_mark (omega (arith, c.self.invariant.origin, placed.moved)) (search rules)

pub returns-else-has_room : goal.returns-else-has_room
returns-else-has_room c = lays_refused _ _ _ c.has_room.ensures.puts c.has_room.ensures.set (c.has_room.ensures.stopped c.if-has_room.false)
