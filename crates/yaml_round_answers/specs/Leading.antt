-- Events that are given to an emitter one after another.
use Rattle.std.specs.Prelude.{◌≡◌, ℕ, ◌≤◌, true, List, [], ◌++◌, length, Option, None, Some, Result, Ok, Err, Vec}
use Rattle.std.specs.Global.{Global}
use Rattle.yaml_parse.specs.scan_types.Faults.{fault_of}
use Rattle.yaml_parse.specs.declared.yaml_fault_t.{yaml_fault_t}
use Rattle.yaml_parse.specs.Events.{EventBody}
use Rattle.yaml_emit.specs.Content.{Event}
use Rattle.yaml_emit.specs.Text.{Item}
use Rattle.yaml_emit.specs.Verdict.{verdict, Writes, TellsOutcome}
use Rattle.yaml_emit.specs.Held.{AreLast}
use Rattle.yaml_emit.specs.Within.{IsWithin}
use Rattle.yaml_emit.specs.Emitter.{Emitter, Completes, IsLimited, IsWhole}
use Rattle.yaml_emit.specs.emit_layout.declared.Encoding.{Encoding}
use Rattle.yaml_emit.specs.emit_layout.declared.Status.TheVariants.{Going}
use Rattle.yaml_emit.specs.emit_layout.declared.RequestedSettings.{RequestedSettings}
use Rattle.yaml_round_answers.specs.declared.emitter.Asked.{Asked}
use Rattle.yaml_round_answers.specs.Written.{emitter_events}

abbrev pub bytes_of : {A : Type 0} → Vec ℕ A → List ℕ
bytes_of text = text.items

abbrev pub requested : Asked → RequestedSettings
requested a = a.settings

abbrev pub asked_for : Asked → RequestedSettings × ℕ
asked_for a = (requested a, a.limit)

-- an emitter that is asked for this, and was given nothing
pub record StartsUnder (e : Emitter) (w : RequestedSettings) (most : ℕ) : Type 0 where
  pub requested_settings : e.requested_settings ≡ w
  pub limit : e.limit ≡ most
  pub fresh : e.fresh ≡ true
  pub fault : e.fault ≡ None
  pub held : e.held ≡ []

-- those of records that each mean one
abbrev pub all_events : Option (List EventBody) → List Event
all_events None = []
all_events (Some bs) = emitter_events bs

-- With these events to come from one emitter and those from the other, the same is refused, unless the output has stopped,
-- and the same is written.
pub record LeadsEmitter (old : Emitter) (before : List Event) (new : Emitter)
    (after : List Event) : Type 0 where
  pub refuses : new.status ≡ Going → verdict new after ≡ verdict old before
  pub writes : (x : Encoding) (whole : List Item) → Writes old x before whole
      → Writes new x after whole
  pub completes : (x : Encoding) (whole : List Item) → Completes old x before whole
      → Completes new x after whole
  pub limit : new.limit ≡ old.limit

-- The same whatever follows.
pub record LeadsOnward (old : Emitter) (before : List Event) (new : Emitter)
    (after : List Event) : Type 0 where
  pub refuses : new.status ≡ Going → (more : List Event)
      → verdict new (after ++ more) ≡ verdict old (before ++ more)
  pub writes : (x : Encoding) (more : List Event) (whole : List Item)
      → Writes old x (before ++ more) whole → Writes new x (after ++ more) whole
  pub completes : (x : Encoding) (more : List Event) (whole : List Item)
      → Completes old x (before ++ more) whole → Completes new x (after ++ more) whole
  pub going : new.status ≡ Going → old.status ≡ Going
  pub limit : new.limit ≡ old.limit
  pub requested_settings : new.requested_settings ≡ old.requested_settings
  -- one that is still fresh was given none
  pub begun : new.fresh ≡ true → (old.fresh ≡ true) × (before ≡ after)

-- Events were given: all of them are taken, and without a fault those that are held are the last of them. Where there were none,
-- nothing changed.
pub record TakesAllEvents (old : Emitter) (es : List Event) (new : Emitter) : Type 0 where
  pub leads : LeadsOnward old es new []
  pub last : new.fault ≡ None → AreLast (old.held ++ es) new.held
  pub few : length old.held ≤ 3 → length new.held ≤ 3
  pub none : es ≡ [] → new ≡ old

-- an emitter's text or fault, and what that says
abbrev pub FinishesEmitter : Emitter → Result (Vec ℕ Global) yaml_fault_t → Type 0
FinishesEmitter e (Ok text) = (e.fault ≡ None) × (text.items ≡ e.output) × TellsOutcome e
    × IsWhole e text.items × IsWithin e
FinishesEmitter e (Err f) = (e.fault ≡ Some (fault_of f)) × TellsOutcome e
    × IsLimited e (fault_of f)
