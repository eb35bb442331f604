-- An emitter's checkpoint, as C holds it from call to call.
use Rattle.std.specs.Prelude.{ℕ, ◌<◌, ◌^◌, nat_lt, ℤ, pos, Bool, true, false, if◌then◌else◌, List, [], ◌∷◌, reverse, Option, None, Some, option_map}
use Rattle.std.specs.Ordering.{int_eq}
use Rattle.yaml_parse.specs.Events.{TagDirective}
use Rattle.yaml_emit.specs.Content.{Event}
use Rattle.yaml_emit.specs.emit_layout.declared.Cursor.{Cursor}
use Rattle.yaml_emit.specs.emit_layout.declared.Encoding.{Encoding}
use Rattle.yaml_emit.specs.emit_layout.declared.Encoding.TheVariants.{Utf8, Utf16Le, Utf16Be}
use Rattle.yaml_emit.specs.emit_layout.declared.Expected.{Expected}
use Rattle.yaml_emit.specs.emit_layout.declared.Expected.TheVariants as at
use Rattle.yaml_emit.specs.emit_layout.declared.Level.{Level}
use Rattle.yaml_emit.specs.emit_layout.declared.Phase.{Phase}
use Rattle.yaml_emit.specs.emit_layout.declared.Phase.TheVariants.{Items, Keys, Value}
use Rattle.yaml_emit.specs.emit_layout.State.{State, top_of}
use Rattle.yaml_emit.specs.emit_core.Levels.{stack}
use Rattle.yaml_round_laws.specs.Pieces.{Stand, first_stand}
use Rattle.yaml_round_answers.specs.declared.record.yaml_c_directive.{yaml_c_directive}
use Rattle.yaml_round_answers.specs.declared.standing.yaml_c_level.{yaml_c_level}
use Rattle.yaml_round_answers.specs.declared.standing.yaml_c_place.{yaml_c_place}
use Rattle.yaml_round_answers.specs.Numbers.{is_set, flag_told, numbered_from}
use Rattle.yaml_round_answers.specs.Records.{all_directives}

-- ---- numbers, which are those of libyaml's states of an emitter

-- what is expected next, by whether the last document ended implicitly
unfoldable pub place_meant : ℤ → Bool → Option Expected
place_meant n implicit =
    if int_eq n (pos 0) then Some at.StreamStart
    else if int_eq n (pos 1) then Some (at.Documents true implicit)
    else if int_eq n (pos 2) then Some (at.Documents false implicit)
    else if int_eq n (pos 3) then Some at.Node
    else if int_eq n (pos 4) then Some at.DocumentEnd
    else if int_eq n (pos 17) then Some at.End
    else None

abbrev pub ends_implicitly : Expected → Bool
ends_implicitly (at.Documents first implicit) = implicit
ends_implicitly at.StreamStart = false
ends_implicitly at.Node = false
ends_implicitly at.DocumentEnd = false
ends_implicitly at.End = false
ends_implicitly (at.Refused p) = false

abbrev pub spellings : List Encoding
spellings = Utf8 ∷ Utf16Le ∷ Utf16Be ∷ []

-- the encoding of a text
unfoldable pub spelling_meant : ℤ → Option Encoding
spelling_meant n = numbered_from spellings 1 n

abbrev pub phases : List (Phase × Bool)
phases = (Items true, true) ∷ (Items false, true) ∷ (Keys true, true) ∷ (Keys false, true)
    ∷ (Value true, true) ∷ (Value false, true) ∷ (Items true, false) ∷ (Items false, false)
    ∷ (Keys true, false) ∷ (Keys false, false) ∷ (Value true, false) ∷ (Value false, false) ∷ []

-- what is next in an open collection, and whether it is in flow style
unfoldable pub phase_meant : ℤ → Option (Phase × Bool)
phase_meant n = numbered_from phases 5 n

abbrev pub level_by : Option (Phase × Bool) → ℕ → Option Level
level_by None n = None
level_by (Some p) n = Some (record { phase = p.0; flow = p.1; indent = n })

abbrev pub level_meant : yaml_c_level → Option Level
level_meant l = level_by (phase_meant l.state) l.indent

-- the innermost collection, or none
unfoldable pub innermost_meant : yaml_c_level → Option (Option Level)
innermost_meant l = if int_eq l.state (pos 0) then Some None else option_map Some (level_meant l)

abbrev pub level_in_front : Option Level → Option (List Level) → Option (List Level)
level_in_front None ls = None
level_in_front (Some l) None = None
level_in_front (Some l) (Some ls) = Some (l ∷ ls)

unfoldable pub levels_meant : List yaml_c_level → Option (List Level)
levels_meant [] = Some []
levels_meant (l ∷ ls) = level_in_front (level_meant l) (levels_meant ls)

-- ---- checkpoints

-- The checkpoint of an emitter that was given an event: the encoding of its text, the state of the
-- layout, and the place of the next character.
pub record At : Type 0 where
  pub encoding : Encoding
  pub state : State
  pub cursor : Cursor

-- a column that is small enough to be gone on from
abbrev pub IsFew : ℕ → Type 0
IsFew column = column < 2 ^ 62

abbrev pub at_if : Bool → At → Option At
at_if true a = Some a
at_if false a = None

abbrev pub at_by : Option Encoding → Option Expected → Option (Option Level) → Option (List Level)
    → Option (List TagDirective) → yaml_c_place → Option At
at_by None p i ls ds r = None
at_by (Some x) None i ls ds r = None
at_by (Some x) (Some p) None ls ds r = None
at_by (Some x) (Some p) (Some i) None ds r = None
at_by (Some x) (Some p) (Some i) (Some ls) None r = None
at_by (Some x) (Some p) (Some i) (Some ls) (Some ds) r = at_if (nat_lt r.column (2 ^ 62)) (record {
  encoding = x;
  state = record { place = p; levels = stack i ls; directives = ds };
  cursor = record {
    column = r.column;
    white = is_set r.white;
    bare = is_set r.bare;
    kept = is_set r.kept;
  };
})

-- what the records mean, the collections round the innermost one with the outermost first
abbrev pub at_meant : yaml_c_place → List yaml_c_level → List yaml_c_directive → List ℕ → Option At
at_meant r ls list bytes = at_by (spelling_meant r.encoding)
    (place_meant r.state (is_set r.implicit)) (innermost_meant r.innermost) (levels_meant ls)
    (all_directives bytes list) r

-- The checkpoint that the records mean: with no encoding none yet, since no event was given. How
-- many events wait isn't looked at: those are given again. Nothing is meant where a number means
-- nothing, a directive's span lies outside, or the column is no less than 2^62.
abbrev pub stand_if : Bool → Option At → Option (Option At)
stand_if false a = Some None
stand_if true a = option_map Some a

unfoldable pub stand_meant : yaml_c_place → List yaml_c_level → List yaml_c_directive → List ℕ
    → Option (Option At)
stand_meant r ls list bytes = stand_if (is_set r.encoding) (at_meant r ls list bytes)

-- the checkpoint of the layout, where these events wait
abbrev pub stand_of : Option At → List Event → Stand
stand_of None held = record {
  state = first_stand.state;
  cursor = first_stand.cursor;
  held = held;
}
stand_of (Some a) held = record { state = a.state; cursor = a.cursor; held = held }

-- ---- records of checkpoints

-- the numbers, as they are handed out
abbrev pub place_number : Expected → ℤ
place_number at.StreamStart = pos 0
place_number (at.Documents true implicit) = pos 1
place_number (at.Documents false implicit) = pos 2
place_number at.Node = pos 3
place_number at.DocumentEnd = pos 4
place_number at.End = pos 17
place_number (at.Refused p) = pos 0

abbrev pub spelling_number : Encoding → ℤ
spelling_number Utf8 = pos 1
spelling_number Utf16Le = pos 2
spelling_number Utf16Be = pos 3

abbrev pub phase_number : Phase → Bool → ℤ
phase_number (Items true) true = pos 5
phase_number (Items false) true = pos 6
phase_number (Keys true) true = pos 7
phase_number (Keys false) true = pos 8
phase_number (Value true) true = pos 9
phase_number (Value false) true = pos 10
phase_number (Items true) false = pos 11
phase_number (Items false) false = pos 12
phase_number (Keys true) false = pos 13
phase_number (Keys false) false = pos 14
phase_number (Value true) false = pos 15
phase_number (Value false) false = pos 16

abbrev pub level_told : Level → yaml_c_level
level_told l = record { state = phase_number l.phase l.flow; indent = l.indent }

-- the innermost open collection, and 0 where none is open
abbrev pub innermost_told : Option Level → yaml_c_level
innermost_told None = record { state = pos 0; indent = 0 }
innermost_told (Some l) = level_told l

abbrev pub place_record : Encoding → Expected → Option Level → Cursor → ℕ → yaml_c_place
place_record x p i c n = record {
  state = place_number p;
  encoding = spelling_number x;
  implicit = flag_told (ends_implicitly p);
  white = flag_told c.white;
  bare = flag_told c.bare;
  kept = flag_told c.kept;
  column = c.column;
  waiting = n;
  innermost = innermost_told i;
}

-- the record of a place where that many events wait; before any event all of it is 0
abbrev pub place_told : Option At → ℕ → yaml_c_place
place_told None n = record {
  state = pos 0;
  encoding = pos 0;
  implicit = pos 0;
  white = pos 0;
  bare = pos 0;
  kept = pos 0;
  column = 0;
  waiting = n;
  innermost = innermost_told None;
}
place_told (Some a) n = place_record a.encoding a.state.place (top_of a.state.levels) a.cursor n

-- the collections round the innermost one, the outermost first
abbrev pub outer_levels : List Level → List Level
outer_levels [] = []
outer_levels (l ∷ ls) = reverse ls

abbrev pub levels_round : Option At → List Level
levels_round None = []
levels_round (Some a) = outer_levels a.state.levels

abbrev pub directives_of : Option At → List TagDirective
directives_of None = []
directives_of (Some a) = a.state.directives

-- those round the innermost one, where one is open
abbrev pub outer_if : Option Level → List Level → List Level
outer_if None outer = []
outer_if (Some l) outer = outer
