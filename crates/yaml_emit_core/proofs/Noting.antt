-- That memory was refused outside the output is noted where this stops the output: then no text was missing any.
use Rattle.std.proofs.Common.{◌≡◌, ◌≢◌, Bool, true, false, refl, inl, inr, ℕ, ◌≤◌, ◌+◌, sym, subst, ◌∙◌, ap, arith, List, [], ◌++◌, length, drop, length-append}
use Rattle.std.specs.Prelude.{◌||◌}
use Rattle.yaml_emit_layout.specs.declared.Status.{Status}
use Rattle.yaml_emit_layout.specs.declared.Status.TheVariants.{Going, Full, Deep, Starved}
use Rattle.yaml_emit_core.specs.Steps.{Core, is_going, may_note, Notes, Starves, is_document_start, takes_memory, Halts, IsPut, LaysOut, next_piece, state_of, settings_of}
use Rattle.std.proofs.lemmas.Bool.{false≢true}
use Rattle.std.proofs.lemmas.List.{append-nil, nil_from_length}
use Rattle.yaml_emit_layout.specs.declared.Encoding.{Encoding}
use Rattle.yaml_emit_layout.specs.Text.{Item, encode, shallow}
use Rattle.yaml_emit_layout.specs.Layout.{Layout, stay, nothing_more}
use Rattle.yaml_emit_layout.specs.Sink.{Output, Ends, EndsBy, Grows, Puts}
use Rattle.yaml_emit_layout.proofs.Sinks.{grows_rest, owes_then, puts_stopped}
use Rattle.yaml_emit_layout.specs.Content.{Event}
use Rattle.yaml_emit_layout.specs.State.{problem_at, piece}

-- an output that went on after a part of it
pub notes_behind : (takes : Bool) (a b c : Status) → (b ≡ Going → a ≡ Going)
    → may_note takes a c ≡ false → may_note takes b c ≡ false
notes_behind false a b c p h = refl
notes_behind true Going Going c p h = h
notes_behind true _ Going c p h = let k = p refl in absurd (cc)
notes_behind true a _ c p h = refl

-- and before the other part
notes_before : (takes : Bool) (a b c : Status) → (c ≡ Going → b ≡ Going)
    → may_note takes a c ≡ false → may_note takes a b ≡ false
notes_before false a b c q h = refl
notes_before true Going Going c q h = refl
notes_before true Going _ Going q h = let k = q refl in absurd (cc)
notes_before true Going _ _ q h = absurd (cc)
notes_before true _ b c q h = refl

-- What is noted over two steps is noted in the one or the other.
pub notes_both : (takes : Bool) (a b c : Status) → (b ≡ Going → a ≡ Going) → (c ≡ Going → b ≡ Going)
    → may_note takes a c ≡ false → (may_note takes a b ≡ false) × (may_note takes b c ≡ false)
notes_both takes a b c p q h = (notes_before takes a b c q h, notes_behind takes a b c p h)

-- A step that may note less notes nothing where one that may note more doesn't.
pub notes_within : (some one : Bool) (a b : Status) → (some ≡ false → one ≡ false)
    → may_note some a b ≡ false → may_note one a b ≡ false
notes_within some false a b p h = refl
notes_within true true a b p h = h
notes_within false true a b p h = let k = p refl in absurd (cc)

-- A step that notes nothing where it may note memory notes nothing where it may not.
pub notes_some : (takes : Bool) (a b : Status) → may_note true a b ≡ false
    → may_note takes a b ≡ false
notes_some false a b h = refl
notes_some true a b h = h

starved_by : (a b : Status) (old new : Bool) → b ≢ Going → new ≡ (is_going a || old)
    → may_note true a b ≡ false → new ≡ old
starved_by Going Going old new n e h = absurd (n refl)
starved_by Going _ old new n e h = absurd (cc)
starved_by _ b old new n e h = e

-- A step that starves is a step that notes memory.
pub notes_starved : (old new : Core) → Starves old new → Notes true old new
notes_starved old new s = λ h. starved_by old.sink.status new.sink.status old.starved new.starved s.stopped s.starved h

pub notes_any : (takes : Bool) (old new : Core) → takes ≡ true → Notes true old new
    → Notes takes old new
notes_any true old new t n = n
notes_any false old new t n = absurd (cc)

-- ---- what stops the output alone

going_by : (s : Status) (was : Bool) → was ≡ false → (is_going s || was) ≡ true → s ≡ Going
going_by Going was n h = refl
going_by _ was n h = absurd (false≢true (sym n ∙ h))

pub halts : (old new : Core) → Starves old new → Halts old new
halts old new s = record { levels = λ off on. (going_by old.sink.status old.starved off (sym s.starved ∙ on), s.text) }

-- ---- then all is there that was put before

same_by : (old new rest : List ℕ) → old ≡ new ++ rest → Grows old new → old ≡ new
same_by old new rest e g =
    let a : length old ≡ length new + length rest = ap length e ∙ length-append new rest in
    let b : length new ≡ length old + length (drop (length old) new) = ap length (grows_rest old new g) ∙ length-append old (drop (length old) new) in
    e ∙ (ap (λ (z : List ℕ). new ++ z) (nil_from_length rest (omega (arith, a, b))) ∙ append-nil new)

whole_by : (s : Status) (limit : ℕ) (x : Encoding) (old new : List ℕ) (whole : List Item)
    → encode x whole ≡ old → encode x (shallow whole) ≡ old → length old ≤ limit → Grows old new
    → EndsBy s limit x new [] whole → encode x whole ≡ new
unfolding encode
whole_by Going limit x old new whole e f l g h = h.0 ∙ append-nil new
whole_by Full limit x old new whole e f l g h =
    let past = h.1 in
    let k : length (encode x whole) ≡ length old = ap length e in
    absurd (omega (arith, past, k, l))
whole_by Deep limit x old new whole e f l g h = e ∙ (sym f ∙ sym h.1)
whole_by Starved limit x old new whole e f l g h = e ∙ same_by old new h.0 (sym e ∙ h.1) g

-- a layout that writes no byte
pub record Blank (x : Encoding) (text : List Item) : Type 0 where
  pub is : encode x text ≡ []
  pub front : encode x (shallow text) ≡ []

going_whole : (s : Status) (limit : ℕ) (x : Encoding) (old : List ℕ) (text whole : List Item)
    → s ≡ Going → Blank x text → EndsBy s limit x old text whole
    → (encode x whole ≡ old) × ((encode x (shallow whole) ≡ old) × (length old ≤ limit))
going_whole Going limit x old text whole g b h =
    (h.0 ∙ (ap (λ (z : List ℕ). old ++ z) b.is ∙ append-nil old), (h.1.1.1 ∙ (ap (λ (z : List ℕ). old ++ z) b.front ∙ append-nil old), h.1.0))
going_whole _ limit x old text whole g b h = absurd (cc)

-- an output that went on up to there, and was stopped by what writes nothing
pub all_there : (b c : Output) (text whole : List Item) → b.status ≡ Going
    → ((y : Layout) → Puts b c y) → Blank b.encoding text → Ends b text whole
    → encode b.encoding whole ≡ c.bytes
unfolding Ends
all_there b c text whole g p none h =
    let y : Layout = λ d rest. text in
    let k = going_whole b.status b.limit b.encoding b.bytes text whole g none h in
    let stopped : EndsBy c.status c.limit c.encoding c.bytes [] whole = (p y).ends nothing_more whole h in
    let P : ℕ → Type 0 = λ l. length b.bytes ≤ l in
    let Q : Encoding → Type 0 = λ x. EndsBy c.status c.limit x c.bytes [] whole in
    whole_by c.status c.limit b.encoding b.bytes c.bytes whole k.0 k.1.0 (subst P (sym (p y).limit) k.1.1) (p y).grows (subst Q (p y).encoding stopped)

-- ---- of an event's layout

-- nothing at all is one
pub nothing_blank : (x : Encoding) → Blank x []
unfolding encode shallow
nothing_blank x = record { is = refl; front = refl }

-- ---- memory that is refused after an event's text, and before it

stopped_notes : (a b : Status) → a ≡ Going → b ≢ Going → may_note true a b ≡ true
stopped_notes Going Going e n = absurd (n refl)
stopped_notes Going Full e n = refl
stopped_notes Going Deep e n = refl
stopped_notes Going Starved e n = refl
stopped_notes Full b e n = absurd (cc e)
stopped_notes Deep b e n = absurd (cc e)
stopped_notes Starved b e n = absurd (cc e)

-- What stops an output that went on, and may take memory outside it, may note this.
pub noted : (takes : Bool) (old new : Core) → takes ≡ true → old.sink.status ≡ Going
    → new.sink.status ≢ Going → Notes takes old new
noted true old new t g n h = absurd (false≢true (sym h ∙ stopped_notes old.sink.status new.sink.status g n))
noted false old new t g n h = absurd (cc t)

not_going : (s : Status) → s ≢ Going → is_going s ≡ false
not_going Going n = absurd (n refl)
not_going Full n = refl
not_going Deep n = refl
not_going Starved n = refl

-- all of it is there, unless it had stopped itself
put_there : (old mid new : Core) (x : Layout) → Puts old.sink mid.sink x
    → mid.starved ≡ old.starved → Starves mid new → old.starved ≡ false → new.starved ≡ true
    → IsPut old.sink new.sink x
put_there old mid new x p same s off on =
    let going : mid.sink.status ≡ Going = going_by mid.sink.status mid.starved (same ∙ off) (sym s.starved ∙ on) in
    λ whole ends.
    let P : Encoding → Type 0 = λ z. encode z whole ≡ new.sink.bytes in
    subst P p.encoding (all_there mid.sink new.sink [] whole going s.text (nothing_blank mid.sink.encoding) (p.ends nothing_more whole ends))

pub starved_lays : (old mid new : Core) (e : Event) (empty : Bool) → takes_memory e ≡ true
    → old.sink.status ≡ Going → mid.settings ≡ old.settings
    → Puts old.sink mid.sink (next_piece (problem_at (settings_of old) (state_of old) e) (piece (settings_of old) (state_of old) e empty))
    → mid.starved ≡ old.starved → Starves mid new → LaysOut old new e empty
starved_lays old mid new e empty t g same p starved s = record {
  settings = s.settings ∙ same;
  state = λ now. absurd (s.stopped now);
  text = owes_then old.sink mid.sink new.sink _ stay stay p (s.text stay);
  memory = noted (takes_memory e) old new t g s.stopped;
  blames = record { levels = λ _ off on. inl (put_there old mid new _ p starved s off on) };
}

pub none_lays : (old new : Core) (e : Event) (empty : Bool) → takes_memory e ≡ true
    → is_document_start e ≡ true → old.sink.status ≡ Going → Starves old new
    → LaysOut old new e empty
none_lays old new e empty t d g s = record {
  settings = s.settings;
  state = λ now. absurd (s.stopped now);
  text = s.text _;
  memory = noted (takes_memory e) old new t g s.stopped;
  blames = record { levels = λ _ off on. inr (d, λ whole ends. all_there old.sink new.sink [] whole g s.text (nothing_blank old.sink.encoding) ends) };
}

-- an output that had stopped
pub starves_stopped : (core : Core) → core.sink.status ≢ Going → Starves core core
starves_stopped core n = record {
  settings = refl;
  place = refl;
  levels = refl;
  directives = refl;
  starved = sym (ap (λ (z : Bool). z || core.starved) (not_going core.sink.status n));
  text = λ x. puts_stopped core.sink x n;
  stopped = n;
}
