use Rattle.std.proofs.Common.{rules, ◌≡◌, ◌+◌, ◌-◌, ◌++◌, length, arith}
use Rattle.std.specs.Prelude.{not, ◌==◌, ◌||◌, ◌&&◌}
use Rattle.yaml_emit_layout.specs.Layout.{◌▹◌, when, char}
use Rattle.yaml_emit_layout.specs.LineStarts.{mark_word}
use Rattle.yaml_scan_runs.specs.Placed.{due_byte}
use Rattle.yaml_emit_output.specs.Placed.{mark_bytes}
use Rattle.yaml_scan_runs.proofs.Places.{Placed-then}
use Rattle.yaml_emit_output.proofs.Puts.{utf8_inline, inline_placed, inline_length}
use Rattle.yaml_emit_output.proofs.Pages.{writes_placed, lays_asked, lays_refused, draft_placed}
use Rattle.yaml_emit_output.proofs.draft.Draft.put_inline.Goals as goal

pub returns-then-has_room : goal.returns-then-has_room
returns-then-has_room c =
    let s = c.self.inside in
    let room = rw (← c.self.view_is) at (c.has_room.ensures.room c.if-has_room.true).0 in
    let m = c.args.mark in
    let comma = c.args.comma in
    let space = not ((m == 0) || (not comma && s.white)) in
    let end = c.place_mark-self-inside.result in
    let buf = c.place_mark-self-inside.new.buf in
    let placed = Placed-then (Placed-then c.place_if-at.ensures c.place_if-at-then-has_room.ensures) c.place_mark-self-inside.ensures in
    let value = c.as_mut_slice-buf.ensures.value in
    let column : s.before + (end - s.origin) ≡ s.before + (s.len - s.origin) + (end - s.len) = omega (arith, c.self.invariant.origin, placed.moved) in
    let count : s.before + (end - s.origin) ≡ s.before + (s.len - s.origin) + length ((due_byte comma 44 ++ due_byte space 32) ++ mark_bytes m) = omega (arith, column, placed.moved) in
    lays_asked _ _ _ _ s c.self.view_is c.has_room.ensures.puts c.has_room.ensures.set (writes_placed s _ buf end s.origin s.before ((m == 0) && (not comma && s.white)) ((m == 0) && (not comma && s.bare)) (when comma (char 44) ▹ mark_word m) _ 3 c.self.invariant (omega (arith, room)) value placed (search rules) (inline_length comma space m)
    (inline_placed comma m (s.before + (end - s.origin)) _ c.requires.mark count))

pub invariant_of-self : goal.invariant_of-self
invariant_of-self c =
    let s = c.self.inside in
    let room = rw (← c.self.view_is) at (c.has_room.ensures.room c.if-has_room.true).0 in
    let m = c.args.mark in
    let comma = c.args.comma in
    let space = not ((m == 0) || (not comma && s.white)) in
    let end = c.place_mark-self-inside.result in
    let buf = c.place_mark-self-inside.new.buf in
    let placed = Placed-then (Placed-then c.place_if-at.ensures c.place_if-at-then-has_room.ensures) c.place_mark-self-inside.ensures in
    let value = c.as_mut_slice-buf.ensures.value in
    let column : s.before + (end - s.origin) ≡ s.before + (s.len - s.origin) + (end - s.len) = omega (arith, c.self.invariant.origin, placed.moved) in
    let count : s.before + (end - s.origin) ≡ s.before + (s.len - s.origin) + length ((due_byte comma 44 ++ due_byte space 32) ++ mark_bytes m) = omega (arith, column, placed.moved) in
    draft_placed s _ buf end s.origin s.before ((m == 0) && (not comma && s.white)) ((m == 0) && (not comma && s.bare)) _ 3 c.self.invariant (omega (arith, room)) value placed (inline_length comma space m) (utf8_inline comma space m c.requires.mark) (omega (arith, c.self.invariant.origin, placed.moved)) (search rules)

pub returns-else-has_room : goal.returns-else-has_room
returns-else-has_room c = lays_refused _ _ _ c.has_room.ensures.puts c.has_room.ensures.set (c.has_room.ensures.stopped c.if-has_room.false)
