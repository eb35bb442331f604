-- What laying out what is held does to the state that lays it out: the clauses of private calls alone cite it.
use Rattle.std.specs.Prelude.{◌≡◌, true, false, ℕ, ◌+◌, List, [], ◌∷◌, ◌++◌, drop}
use Rattle.yaml_emit_layout.specs.declared.Status.TheVariants.{Going}
use Rattle.yaml_emit_layout.specs.Text.{Item, encode}
use Rattle.yaml_emit_layout.specs.Sink.{Grows}
use Rattle.yaml_emit_layout.specs.Content.{Event}
use Rattle.yaml_emit_core.specs.Steps.{Core, state_of, settings_of, Notes, goes_on}
use Rattle.yaml_emit_core.specs.Finish.{Finishes}
use Rattle.yaml_emit_machine.specs.declared.held.Held.{Held}
use Rattle.yaml_emit_machine.specs.Held.{held_events, HeldUtf8, is_ready, AreLast, IsWaiting}
use Rattle.yaml_emit_machine.specs.Judged.{refusal_behind, LetsOut, first_wrong, LaysAll, take_memory, LaysSome, RefusesHeld}

-- the output is what is written for the first n of these events, whatever follows them
abbrev pub HasLaid : Core → List Event → List ℕ → ℕ → Type 0
HasLaid old before output n = (es : List Event) (whole : List Item)
    → LaysSome n (settings_of old) (state_of old) old.sink (before ++ es) whole
    → encode old.sink.encoding whole ≡ output

-- Of the events `before` those of `after` are left, and the others were laid out. Whatever follows: the whole text is the same,
-- the same event is wrong, unless the output has stopped, and the same is written of all.
pub record LaysOn (old : Core) (before : List Event) (new : Core) (after : List Event) : Type 0
  where
    pub finishes : (es : List Event) (whole : List Item)
        → Finishes (settings_of old) (state_of old) old.sink (before ++ es) whole
        → Finishes (settings_of new) (state_of new) new.sink (after ++ es) whole
    pub first : new.sink.status ≡ Going → (es : List Event)
        → first_wrong (settings_of new) (state_of new) (after ++ es)
        ≡ first_wrong (settings_of old) (state_of old) (before ++ es)
    pub lays : (es : List Event) (whole : List Item)
        → LaysAll (settings_of old) (state_of old) old.sink (before ++ es) whole
        → LaysAll (settings_of new) (state_of new) new.sink (after ++ es) whole
    -- nothing that was written is taken back
    pub grows : Grows old.sink.bytes new.sink.bytes
    -- an output that has stopped stays stopped
    pub going : new.sink.status ≡ Going → old.sink.status ≡ Going
    pub encoding : new.sink.encoding ≡ old.sink.encoding
    pub limit : new.sink.limit ≡ old.sink.limit
    -- that memory was refused outside the output is noted where this stops it, by an event that takes such memory
    pub memory : Notes (take_memory before) old new
    pub left : take_memory before ≡ false → take_memory after ≡ false
    -- how many were laid out
    pub laid : ℕ
    pub rest : drop laid before ≡ after
    pub some : new.sink.status ≡ Going → (m n : ℕ) → m ≡ laid + n → (es : List Event)
        → (whole : List Item)
        → LaysSome m (settings_of old) (state_of old) old.sink (before ++ es) whole
        → LaysSome n (settings_of new) (state_of new) new.sink (after ++ es) whole
    -- where it is noted, no text was missing memory
    pub blames : old.starved ≡ false → new.starved ≡ true
        → RefusesHeld before (HasLaid old before new.sink.bytes)

-- The same where no event is laid out that still has to be held: of those that are let out the same event is refused, and the same is
-- written.
pub record LaysEvents (old : Core) (before : List Event) (new : Core) (after : List Event) : Type 0
  where
    pub on : LaysOn old before new after
    pub refuses : new.sink.status ≡ Going → (es : List Event)
        → refusal_behind (settings_of new) (state_of new) (after ++ es)
        ≡ refusal_behind (settings_of old) (state_of old) (before ++ es)
    pub lets_out : (es : List Event) (whole : List Item)
        → LetsOut (settings_of old) (state_of old) old.sink (before ++ es) whole
        → LetsOut (settings_of new) (state_of new) new.sink (after ++ es) whole

-- An event was given after those that are held, and what no longer has to be held was laid out, the event itself too; or nothing
-- more is laid out, and none is held.
pub record HoldsOrLays (old : Core) (held : Held) (e : Event) (new : Core) (left : Held) : Type 0
  where
    pub lays : LaysEvents old (held_events held ++ e ∷ []) new (held_events left)
    pub utf8 : HeldUtf8 left
    pub waits : goes_on new.sink.status new.place ≡ true → is_ready (held_events left) ≡ false
    pub last : AreLast (held_events held ++ e ∷ []) (held_events left)
    pub settings : new.settings ≡ old.settings

-- An event was given after those that are held, and all were laid out, except for it where it has to wait for the next one; or nothing
-- more is laid out, and none is held.
pub record LaysSoon (old : Core) (held : Held) (e : Event) (new : Core) (left : Held) : Type 0 where
  pub lays : LaysOn old (held_events held ++ e ∷ []) new (held_events left)
  pub utf8 : HeldUtf8 left
  pub waits : IsWaiting old.settings.canonical e (held_events left)
  pub stopped : goes_on new.sink.status new.place ≡ false → held_events left ≡ []
  pub settings : new.settings ≡ old.settings
