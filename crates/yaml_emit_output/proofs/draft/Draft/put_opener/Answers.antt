use Rattle.std.proofs.Common.{rules, ◌≡◌, ◌+◌, ◌-◌, ◌++◌, ◌∷◌, [], length, true, false, arith}
use Rattle.std.specs.Prelude.{not}
use Rattle.yaml_emit_layout.specs.Layout.{opener}
use Rattle.yaml_scan_runs.specs.Placed.{due_byte}
use Rattle.yaml_scan_runs.proofs.Places.{Placed-then}
use Rattle.yaml_emit_output.proofs.Puts.{utf8_opener, opener_placed, opener_length}
use Rattle.yaml_emit_output.proofs.Pages.{writes_placed, lays_asked, lays_refused, draft_placed}
use Rattle.yaml_emit_output.proofs.draft.Draft.put_opener.Goals as goal

pub returns-then-has_room : goal.returns-then-has_room
returns-then-has_room c =
    let s = c.self.inside in
    let room = rw (← c.self.view_is) at (c.has_room.ensures.room c.if-has_room.true).0 in
    let value = c.as_mut_slice-buf.ensures.value in
    let x = c.args.bracket in
    let end = c.place_byte-self-inside.result in
    let buf = c.place_byte-self-inside.new.buf in
    let placed = Placed-then c.place_if-at.ensures c.place_byte-self-inside.ensures in
    let column : s.before + (end - s.origin) ≡ s.before + (s.len - s.origin) + (end - s.len) = omega (arith, c.self.invariant.origin, placed.moved) in
    let count : s.before + (end - s.origin) ≡ s.before + (s.len - s.origin) + length (due_byte (not s.white) 32 ++ x ∷ []) = omega (arith, column, placed.moved) in
    lays_asked _ _ _ _ s c.self.view_is c.has_room.ensures.puts c.has_room.ensures.set (writes_placed s _ buf end s.origin s.before true false (opener x) _ 2 c.self.invariant (omega (arith, room)) value placed (search rules) (opener_length (not s.white) x)
    (opener_placed x (s.before + (end - s.origin)) _ c.requires.bracket count))

pub invariant_of-self : goal.invariant_of-self
invariant_of-self c =
    let s = c.self.inside in
    let room = rw (← c.self.view_is) at (c.has_room.ensures.room c.if-has_room.true).0 in
    let value = c.as_mut_slice-buf.ensures.value in
    let x = c.args.bracket in
    let end = c.place_byte-self-inside.result in
    let buf = c.place_byte-self-inside.new.buf in
    let placed = Placed-then c.place_if-at.ensures c.place_byte-self-inside.ensures in
    let column : s.before + (end - s.origin) ≡ s.before + (s.len - s.origin) + (end - s.len) = omega (arith, c.self.invariant.origin, placed.moved) in
    let count : s.before + (end - s.origin) ≡ s.before + (s.len - s.origin) + length (due_byte (not s.white) 32 ++ x ∷ []) = omega (arith, column, placed.moved) in
    draft_placed s _ buf end s.origin s.before true false _ 2 c.self.invariant (omega (arith, room)) value placed (opener_length (not s.white) x) (utf8_opener (not s.white) x c.requires.bracket) (omega (arith, c.self.invariant.origin, placed.moved)) (search rules)

pub returns-else-has_room : goal.returns-else-has_room
returns-else-has_room c = lays_refused _ _ _ c.has_room.ensures.puts c.has_room.ensures.set (c.has_room.ensures.stopped c.if-has_room.false)
