use Rattle.std.proofs.Common.{rules, ◌≡◌, ◌+◌, ◌-◌, ◌++◌, length, false, not, arith}
use Rattle.yaml_emit_layout.specs.Layout.{◌▹◌, letters, gap, after_text}
use Rattle.yaml_scan_runs.specs.Placed.{due_byte}
use Rattle.yaml_emit_output.specs.Placed.{mark_bytes, sign_bytes}
use Rattle.yaml_scan_runs.proofs.Places.{Placed-then}
use Rattle.yaml_emit_output.proofs.Puts.{utf8_word, word_placed, word_length}
use Rattle.yaml_emit_output.proofs.Pages.{writes_placed, lays_asked, lays_refused, draft_placed}
use Rattle.yaml_emit_output.proofs.draft.Draft.put_word.Goals as goal

pub returns-then-has_room : goal.returns-then-has_room
returns-then-has_room c =
    let s = c.self.inside in
    let room = rw (← c.self.view_is) at (c.has_room.ensures.room c.if-has_room.true).0 in
    let first = c.args.first in
    let last = c.args.last in
    let text = c.args.text.now in
    let end = c.place_mark-self-inside.result in
    let buf = c.place_mark-self-inside.new.buf in
    let placed = Placed-then (Placed-then (Placed-then (Placed-then c.place_if-at.ensures c.place_sign-at.ensures) c.place_mark-at.ensures) c.place_text-at.ensures) c.place_mark-self-inside.ensures in
    let value = c.as_mut_slice-buf.ensures.value in
    let few = word_length (not s.white) c.args.marked first last text in
    let column : s.before + (end - s.origin) ≡ s.before + (s.len - s.origin) + (end - s.len) = omega (arith, c.self.invariant.origin, placed.moved) in
    let count : s.before + (end - s.origin) ≡ s.before + (s.len - s.origin) + length ((((due_byte (not s.white) 32 ++ sign_bytes c.args.marked) ++ mark_bytes first) ++ text) ++ mark_bytes last) = omega (arith, column, placed.moved) in
    lays_asked _ _ _ _ s c.self.view_is c.has_room.ensures.puts c.has_room.ensures.set (writes_placed s _ buf end s.origin s.before false false (gap ▹ (letters (((sign_bytes c.args.marked ++ mark_bytes first) ++ text) ++ mark_bytes last) ▹ after_text)) _ (length text + 5) c.self.invariant (omega (arith, room)) value placed (search rules) few
    (word_placed c.args.marked first last (s.before + (end - s.origin)) text _ c.requires.first c.requires.last c.requires.ascii count))

pub invariant_of-self : goal.invariant_of-self
invariant_of-self c =
    let s = c.self.inside in
    let room = rw (← c.self.view_is) at (c.has_room.ensures.room c.if-has_room.true).0 in
    let first = c.args.first in
    let last = c.args.last in
    let text = c.args.text.now in
    let end = c.place_mark-self-inside.result in
    let buf = c.place_mark-self-inside.new.buf in
    let placed = Placed-then (Placed-then (Placed-then (Placed-then c.place_if-at.ensures c.place_sign-at.ensures) c.place_mark-at.ensures) c.place_text-at.ensures) c.place_mark-self-inside.ensures in
    let value = c.as_mut_slice-buf.ensures.value in
    let few = word_length (not s.white) c.args.marked first last text in
    let column : s.before + (end - s.origin) ≡ s.before + (s.len - s.origin) + (end - s.len) = omega (arith, c.self.invariant.origin, placed.moved) in
    let count : s.before + (end - s.origin) ≡ s.before + (s.len - s.origin) + length ((((due_byte (not s.white) 32 ++ sign_bytes c.args.marked) ++ mark_bytes first) ++ text) ++ mark_bytes last) = omega (arith, column, placed.moved) in
    draft_placed s _ buf end s.origin s.before false false _ (length text + 5) c.self.invariant (omega (arith, room)) value placed few (utf8_word (not s.white) c.args.marked first last text c.requires.first c.requires.last c.requires.ascii) (omega (arith, c.self.invariant.origin, placed.moved)) (search rules)

pub returns-else-has_room : goal.returns-else-has_room
returns-else-has_room c = lays_refused _ _ _ c.has_room.ensures.puts c.has_room.ensures.set (c.has_room.ensures.stopped c.if-has_room.false)
