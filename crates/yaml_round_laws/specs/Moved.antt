-- What a parser makes of moved tokens.
use Rattle.std.specs.Prelude.{◌≡◌, ◌⊎◌, ℕ, Option, Some, None}
use Rattle.yaml_round_content.specs.scan_model.declared.record.yaml_mark_t.{yaml_mark_t}
use Rattle.yaml_round_content.specs.scan_types.Tokens.{zero_mark}
use Rattle.yaml_round_content.specs.scan_types.Faults.{Fault}
use Rattle.yaml_round_content.specs.parse_model.Events.{Event}
use Rattle.yaml_scan_laws.specs.Moved.{moved_mark}

abbrev pub moved_event : ℕ → ℕ → Event → Event
moved_event d n e = record {
  body = e.body;
  start_mark = moved_mark d n e.start_mark;
  end_mark = moved_mark d n e.end_mark;
}

-- the mark is moved; or it names no place, and is zero in both
abbrev pub IsMovedMark : ℕ → ℕ → yaml_mark_t → yaml_mark_t → Type 0
IsMovedMark d n m k = (k ≡ moved_mark d n m) ⊎ ((m ≡ zero_mark) × (k ≡ zero_mark))

-- the fault is the same, moved
pub record IsMovedFault (d n : ℕ) (f g : Fault) : Type 0 where
  pub kind : g.kind ≡ f.kind
  pub problem : g.problem ≡ f.problem
  pub offset : g.offset ≡ f.offset
  pub number : g.number ≡ f.number
  pub place : IsMovedMark d n f.problem_mark g.problem_mark
  pub context : g.context ≡ f.context
  pub beside : IsMovedMark d n f.context_mark g.context_mark
  pub origin : g.origin ≡ f.origin

-- both end in none, or in a fault that is moved
abbrev pub IsMovedEnd : ℕ → ℕ → Option Fault → Option Fault → Type 0
IsMovedEnd d n None None = Unit {0}
IsMovedEnd d n None (Some g) = ⊥
IsMovedEnd d n (Some f) None = ⊥
IsMovedEnd d n (Some f) (Some g) = IsMovedFault d n f g
