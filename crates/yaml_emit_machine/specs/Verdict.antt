-- What an emitter refuses and has written, with the events that follow.
use Rattle.std.specs.Prelude.{◌≡◌, ℕ, ◌≤◌, Bool, false, if◌then◌else◌, List, [], ◌∷◌, ◌++◌, length, Option, Some}
use Rattle.yaml_scan_model.specs.declared.name.yaml_encoding_t.TheVariants.{YAML_ANY_ENCODING}
use Rattle.yaml_emit_layout.specs.declared.Encoding.{Encoding}
use Rattle.yaml_emit_layout.specs.declared.Settings.{Settings}
use Rattle.yaml_emit_layout.specs.declared.Status.{Status}
use Rattle.yaml_emit_layout.specs.declared.Status.TheVariants.{Going, Full, Deep, Starved}
use Rattle.yaml_emit_layout.specs.declared.RequestedSettings.{RequestedSettings}
use Rattle.yaml_emit_layout.specs.Text.{Item, encode, is_deep, shallow}
use Rattle.yaml_emit_layout.specs.Layout.{Layout, written}
use Rattle.yaml_emit_layout.specs.Settings.{settled}
use Rattle.yaml_emit_layout.specs.declared.Problem.{Problem}
use Rattle.yaml_emit_layout.specs.declared.Expected.TheVariants as at
use Rattle.yaml_emit_layout.specs.Content.{Event}
use Rattle.yaml_emit_layout.specs.State.{State, placed}
use Rattle.yaml_emit_layout.specs.Progress.{first_progress, first_refusal}
use Rattle.yaml_emit_machine.specs.Judged.{let_out, laid, refusal_behind, LetsOut, first_wrong, LaysAll, laid_some, LaysSome}
use Rattle.yaml_emit_machine.specs.Emitter.{Emitter, ByFresh, Says, stream_encoding, fault_by, HasWritten}

abbrev pub verdict_by : Bool → Emitter → List Event → Option Problem
verdict_by fresh e es = if fresh
    then first_refusal e.requested_settings.canonical first_progress (let_out es)
    else refusal_behind e.course.settings e.course.state (e.held ++ es)

-- The problem of the first event that is refused, among those that are let out once these are given too.
unfoldable pub verdict : Emitter → List Event → Option Problem
verdict e es = verdict_by e.fresh e es

-- the settings in force from the first event on
abbrev pub first_settings : RequestedSettings → List Event → Settings
first_settings w [] = settled w YAML_ANY_ENCODING
first_settings w (e ∷ es) = settled w (stream_encoding e)

-- a fresh emitter's text, by how events are laid out, and its encoding
pub record IsFirst (text : Settings → State → List Event → Layout) (w : RequestedSettings)
    (x : Encoding) (es : List Event) (whole : List Item) : Type 0 where
  pub coded : x ≡ (first_settings w es).encoding
  pub is : whole ≡ written (text (first_settings w es) (placed at.StreamStart) es)

abbrev pub IsLetOut : RequestedSettings → Encoding → List Event → List Item → Type 0
IsLetOut w x es whole = IsFirst (λ s st events. laid s st (let_out events)) w x es whole

abbrev pub WritesBy : Bool → Emitter → Encoding → List Event → List Item → Type 0
WritesBy fresh e x es whole = ByFresh fresh (IsLetOut e.requested_settings x es whole)
    (Says LetsOut e x es whole)

-- Once these events are given too, `whole` is what is written, in that encoding: all events that are let out, up to the first
-- one that is refused.
unfoldable pub Writes : Emitter → Encoding → List Event → List Item → Type 0
Writes e x es whole = WritesBy e.fresh e x es whole

-- ---- of all events, whether they are let out by then or not

abbrev pub wrong_by : Bool → Emitter → List Event → Option Problem
wrong_by fresh e es = if fresh
    then first_refusal e.requested_settings.canonical first_progress es
    else first_wrong e.course.settings e.course.state (e.held ++ es)

-- The problem of the first event that is wrong, once these are given too: the one that is refused when all of them are let out.
unfoldable pub wrong : Emitter → List Event → Option Problem
wrong e es = wrong_by e.fresh e es

abbrev pub LaysBy : Bool → Emitter → Encoding → List Event → List Item → Type 0
LaysBy fresh e x es whole = ByFresh fresh (IsFirst laid e.requested_settings x es whole)
    (Says LaysAll e x es whole)

-- `whole` is what is written when all of them are let out, in that encoding: up to the first one that is wrong.
unfoldable pub Lays : Emitter → Encoding → List Event → List Item → Type 0
Lays e x es whole = LaysBy e.fresh e x es whole

-- ---- of the first few

abbrev pub FirstBy : Bool → ℕ → Emitter → Encoding → List Event → List Item → Type 0
FirstBy fresh n e x es whole = ByFresh fresh
    (IsFirst (laid_some n) e.requested_settings x es whole) (Says (LaysSome n) e x es whole)

-- `whole` is what is written when the first n of the held events and of these are let out, in that encoding.
unfoldable pub LaysFirst : ℕ → Emitter → Encoding → List Event → List Item → Type 0
LaysFirst n e x es whole = FirstBy e.fresh n e x es whole

-- All of it is in the output, which passes no limit; or the output has stopped there.
abbrev pub HasLetOut : Status → ℕ → List ℕ → List ℕ → Bool → Type 0
HasLetOut Going limit output bytes deep = (output ≡ bytes)
    × ((length output ≤ limit) × (deep ≡ false))
HasLetOut Full limit output bytes deep = HasWritten Full limit output bytes deep
HasLetOut Deep limit output bytes deep = HasWritten Deep limit output bytes deep
HasLetOut Starved limit output bytes deep = HasWritten Starved limit output bytes deep

-- The fault is that of the first refused event among those that were let out, or, once the output has stopped, that of what
-- stopped it; the output has all that was let out, or stopped at a limit that this passes or when out of memory. While it goes
-- on, no memory was refused outside it.
pub record TellsOutcome (e : Emitter) : Type 0 where
  pub fault : e.fault ≡ fault_by e.status e.starved (verdict e [])
  pub output : (x : Encoding) (whole : List Item) → Writes e x [] whole
      → HasLetOut e.status e.limit e.output (encode x whole) (is_deep whole)
  -- a refused event is the first of all that is wrong, whatever follows, and the output is what is before it
  pub first : e.status ≡ Going → (p : Problem) → verdict e [] ≡ Some p
      → (more : List Event) → wrong e more ≡ Some p
  pub front : e.status ≡ Going → (p : Problem) → verdict e [] ≡ Some p
      → (x : Encoding) (more : List Event) (whole : List Item) → Lays e x more whole
      → e.output ≡ encode x whole
  -- stopped by an indentation that is too deep, it has all before the first such place
  pub deep : e.status ≡ Deep → (x : Encoding) (whole : List Item) → Writes e x [] whole
      → e.output ≡ encode x (shallow whole)
  pub memory : e.status ≡ Going → e.starved ≡ false
