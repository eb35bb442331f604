use Rattle.std.proofs.Common.{rules, ◌≡◌, ◌+◌, ◌-◌, length, false, arith}
use Rattle.std.specs.Str.{chars}
use Rattle.yaml_emit_layout.specs.Layout.{letters}
use Rattle.yaml_emit_output.proofs.Parts.{part_placed, some_leads}
use Rattle.yaml_emit_output.proofs.Pages.{writes_placed, lays_asked, lays_refused, draft_placed}
use Rattle.yaml_emit_output.proofs.draft.Draft.put_letters.Goals as goal

pub returns-then-has_room : goal.returns-then-has_room
returns-then-has_room c =
    let s = c.self.inside in
    let room = rw (← c.self.view_is) at (c.has_room.ensures.room c.if-has_room.true).0 in
    let value = c.as_mut_slice.ensures.value in
    let text = c.args.text.now in
    let end = c.place_text-self-inside.result in
    let buf = c.place_text-self-inside.new.buf in
    let placed = c.place_text-self-inside.ensures in
    let more = c.args.continued in
    let less = some_leads text more c.requires.some c.requires.utf8 c.requires.size in
    let column : s.before + (end - (s.origin + more)) ≡ s.before + (s.len - s.origin) + (length text - more) = omega (arith, c.self.invariant.origin, placed.moved, less) in
    lays_asked _ _ _ _ s c.self.view_is c.has_room.ensures.puts c.has_room.ensures.set (writes_placed s _ buf end (s.origin + more) s.before false false (letters (chars text)) text (length text) c.self.invariant (omega (arith, room)) value placed (search rules) (omega arith)
    (part_placed (s.before + (end - (s.origin + more))) more text _ c.requires.some c.requires.utf8 c.requires.size less column))

pub invariant_of-self : goal.invariant_of-self
invariant_of-self c =
    let s = c.self.inside in
    let room = rw (← c.self.view_is) at (c.has_room.ensures.room c.if-has_room.true).0 in
    let value = c.as_mut_slice.ensures.value in
    let text = c.args.text.now in
    let end = c.place_text-self-inside.result in
    let buf = c.place_text-self-inside.new.buf in
    let placed = c.place_text-self-inside.ensures in
    let less = some_leads text c.args.continued c.requires.some c.requires.utf8 c.requires.size in
    draft_placed s _ buf end (s.origin + c.args.continued) s.before false false _ (length text) c.self.invariant (omega (arith, room)) value placed (omega arith) c.requires.utf8 (omega (arith, c.self.invariant.origin, placed.moved, less)) (search rules)

pub returns-else-has_room : goal.returns-else-has_room
returns-else-has_room c = lays_refused _ _ _ c.has_room.ensures.puts c.has_room.ensures.set (c.has_room.ensures.stopped c.if-has_room.false)
