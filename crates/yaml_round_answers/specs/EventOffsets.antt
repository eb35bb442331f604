-- Where the fields of C's records lie: which one comes where in the machine's struct, and the byte at which it begins.
use mathlib.Core.Option.{Option, none, some}
use mir.Syntax.{Ty}
use prog.Memory.{field_of}
use denote.Struct.Field.{Field}
use denote.Struct.Values.{Values}
use denote.Struct.Declared.{Declared, row}
use Rattle.std.specs.Prelude.{◌≡◌, ℕ, zero, suc, List, [], ◌∷◌}
use Rattle.yaml_round_answers.specs.contracts.record.yaml_c_mark as mark
use Rattle.yaml_round_answers.specs.contracts.record.yaml_c_span as span
use Rattle.yaml_round_answers.specs.contracts.record.yaml_c_directive as directive
use Rattle.yaml_round_answers.specs.contracts.record.yaml_c_event as event
use Rattle.yaml_round_answers.specs.contracts.record.yaml_c_settings as settings
use Rattle.yaml_round_answers.specs.contracts.standing.yaml_c_level as level
use Rattle.yaml_round_answers.specs.contracts.standing.yaml_c_place as place
use Rattle.yaml_round_answers.specs.contracts.standing.yaml_c_stand as stand

-- the type of a struct's field, counted from 0, and its value
abbrev pub TypeAt : List Field → ℕ → Type 0
TypeAt [] k = Unit {0}
TypeAt (f ∷ fs) zero = f.Value
TypeAt (f ∷ fs) (suc k) = TypeAt fs k

abbrev pub value_at : (fs : List Field) (k : ℕ) → Values fs → TypeAt fs k
value_at [] k vs = tt
value_at (f ∷ fs) zero vs = vs.0
value_at (f ∷ fs) (suc k) vs = value_at fs k vs.1

-- the byte at which it begins
abbrev pub place_of : Option (Ty × ℕ) → Option ℕ
place_of none = none
place_of (some f) = some f.1

abbrev pub begins : List Ty → ℕ → Option ℕ
begins [] k = none
begins (t ∷ ts) k = place_of (field_of t k)

-- the field that a record has by this name is its k-th, and begins at that byte
pub record LiesAt (s : Declared) (k : ℕ) (field : s.D → TypeAt s.parts k) (at : ℕ) : Type 0 where
  pub is : (d : s.D) → value_at s.parts k (s.as_values d) ≡ field d
  pub begins : begins (row s).mir k ≡ some at

-- ---- the layouts, which are those that the header asserts

pub record MarkLies : Type 0 where
  pub index : LiesAt mark.the_type 0 (λ d. d.index) 0
  pub line : LiesAt mark.the_type 1 (λ d. d.line) 8
  pub column : LiesAt mark.the_type 2 (λ d. d.column) 16
  pub character : LiesAt mark.the_type 3 (λ d. d.character) 24

pub record SpanLies : Type 0 where
  pub at : LiesAt span.the_type 0 (λ d. d.at) 0
  pub len : LiesAt span.the_type 1 (λ d. d.len) 8

pub record DirectiveLies : Type 0 where
  pub handle : LiesAt directive.the_type 0 (λ d. d.handle) 0
  pub prefix : LiesAt directive.the_type 1 (λ d. d.prefix) 16

pub record EventLies : Type 0 where
  pub kind : LiesAt event.the_type 0 (λ d. d.kind) 0
  pub style : LiesAt event.the_type 1 (λ d. d.style) 4
  pub encoding : LiesAt event.the_type 2 (λ d. d.encoding) 8
  pub implicit : LiesAt event.the_type 3 (λ d. d.implicit) 12
  pub quoted_implicit : LiesAt event.the_type 4 (λ d. d.quoted_implicit) 16
  pub has_anchor : LiesAt event.the_type 5 (λ d. d.has_anchor) 20
  pub has_tag : LiesAt event.the_type 6 (λ d. d.has_tag) 24
  pub has_version : LiesAt event.the_type 7 (λ d. d.has_version) 28
  pub major : LiesAt event.the_type 8 (λ d. d.major) 32
  pub minor : LiesAt event.the_type 9 (λ d. d.minor) 36
  pub directives : LiesAt event.the_type 10 (λ d. d.directives) 40
  pub anchor : LiesAt event.the_type 11 (λ d. d.anchor) 56
  pub tag : LiesAt event.the_type 12 (λ d. d.tag) 72
  pub value : LiesAt event.the_type 13 (λ d. d.value) 88
  pub start : LiesAt event.the_type 14 (λ d. d.start) 104
  pub end : LiesAt event.the_type 15 (λ d. d.end) 136

pub record SettingsLie : Type 0 where
  pub encoding : LiesAt settings.the_type 0 (λ d. d.encoding) 0
  pub canonical : LiesAt settings.the_type 1 (λ d. d.canonical) 4
  pub indent : LiesAt settings.the_type 2 (λ d. d.indent) 8
  pub width : LiesAt settings.the_type 3 (λ d. d.width) 12
  pub unicode : LiesAt settings.the_type 4 (λ d. d.unicode) 16
  pub line_break : LiesAt settings.the_type 5 (λ d. d.line_break) 20
  pub limit : LiesAt settings.the_type 6 (λ d. d.limit) 24

pub record LevelLies : Type 0 where
  pub state : LiesAt level.the_type 0 (λ d. d.state) 0
  pub indent : LiesAt level.the_type 1 (λ d. d.indent) 8

pub record PlaceLies : Type 0 where
  pub state : LiesAt place.the_type 0 (λ d. d.state) 0
  pub encoding : LiesAt place.the_type 1 (λ d. d.encoding) 4
  pub implicit : LiesAt place.the_type 2 (λ d. d.implicit) 8
  pub white : LiesAt place.the_type 3 (λ d. d.white) 12
  pub bare : LiesAt place.the_type 4 (λ d. d.bare) 16
  pub kept : LiesAt place.the_type 5 (λ d. d.kept) 20
  pub column : LiesAt place.the_type 6 (λ d. d.column) 24
  pub waiting : LiesAt place.the_type 7 (λ d. d.waiting) 32
  pub innermost : LiesAt place.the_type 8 (λ d. d.innermost) 40

-- a list is a pointer with its length after it
pub record StandLies : Type 0 where
  pub place : LiesAt stand.the_type 0 (λ d. d.place) 0
  pub levels : LiesAt stand.the_type 1 (λ d. d.levels) 56
  pub directives : LiesAt stand.the_type 2 (λ d. d.directives) 72
  pub bytes : LiesAt stand.the_type 3 (λ d. d.bytes) 88
