-- Records of an input's events in their text: the characters before their marks, and which tags were left out.
use Rattle.std.specs.Prelude.{ℕ, ℤ, pos, Bool, true, false, ◌&&◌, List}
use Rattle.std.specs.Ordering.{int_eq}
use Rattle.yaml_round_answers.specs.Characters.{characters_before, has_tag}
use Rattle.yaml_round_answers.specs.declared.record.yaml_c_mark.{yaml_c_mark}
use Rattle.yaml_round_answers.specs.declared.record.yaml_c_event.{yaml_c_event}

-- a mark with the characters that are before it
abbrev pub mark_counted : List ℕ → yaml_c_mark → yaml_c_mark
mark_counted text m = record m { character = characters_before text m.index }

-- a scalar has no tag in its record, though the text has one
abbrev pub leaves_out_tag : List ℕ → yaml_c_event → Bool
leaves_out_tag text r = int_eq r.kind (pos 6)
    && (int_eq r.has_tag (pos 0) && has_tag text r.start.index r.end.index r.anchor.len)

-- its flag is 2 then
abbrev pub tag_flag : Bool → ℤ → ℤ
tag_flag true n = pos 2
tag_flag false n = n

abbrev pub event_counted : List ℕ → yaml_c_event → yaml_c_event
event_counted text r = record r {
  has_tag = tag_flag (leaves_out_tag text r) r.has_tag;
  start = mark_counted text r.start;
  end = mark_counted text r.end;
}
