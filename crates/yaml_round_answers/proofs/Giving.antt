-- Events that are given to an emitter one after another.
use Rattle.std.proofs.Common.{◌≡◌, ◌+◌, ◌<◌, ◌≤◌, get_or, drop, arith, ℕ, Bool, true, false, List, [], ◌∷◌, ◌++◌, length, refl, sym, ap, ◌∙◌, subst, Option, None, Some, is_some, append_assoc, append-nil}
use Rattle.std.specs.Prelude.{◌==◌}
use Rattle.std.proofs.lemmas.Bool.Decides.{nat_tests}
use Rattle.std.proofs.lemmas.List.{drop_all}
use Rattle.yaml_parse.specs.scan_types.Faults.{Fault}
use Rattle.yaml_parse.specs.Events.{EventBody}
use Rattle.yaml_emit.specs.Content.{Event, emitter_event}
use Rattle.yaml_emit.specs.Emitter.{Emitter, Stays}
use Rattle.yaml_emit.specs.Held.{AreLast}
use Rattle.yaml_round_answers.specs.declared.record.yaml_c_directive.{yaml_c_directive}
use Rattle.yaml_round_answers.specs.declared.record.yaml_c_event.{yaml_c_event}
use Rattle.yaml_round_answers.specs.Records.{body_in_front}
use Rattle.yaml_round_answers.specs.Meaning.{event_meant, events_meant}
use Rattle.yaml_round_answers.specs.Leading.{all_events, LeadsOnward, TakesAllEvents}
use Rattle.yaml_round_answers.proofs.Leading.{events_left, none_left, leads_same, leads_end}

-- Of all events those before `left` were given, and those that are held are the last of what was held and these.
abbrev pub LastGiven : List Event → List Event → List Event → List Event → Type 0
LastGiven before all left held = (front : List Event) × ((all ≡ front ++ left) × AreLast (before ++ front) held)

pub last_nothing : (before all : List Event) → LastGiven before all all before
last_nothing before all = ([], (refl, ([], append-nil before)))

-- one more is given
last_more : (before all rest held new : List Event) (x : Event)
    → LastGiven before all (x ∷ rest) held → AreLast (held ++ x ∷ []) new
    → LastGiven before all rest new
last_more before all rest held new x l m = (
  l.0 ++ x ∷ [],
  (
    l.1.0 ∙ sym (append_assoc l.0 (x ∷ []) rest),
    (
      l.1.1.0 ++ m.0,
      sym (append_assoc before l.0 (x ∷ [])) ∙ ap (λ z. z ++ x ∷ []) l.1.1.1 ∙ append_assoc l.1.1.0 held (x ∷ []) ∙ ap (λ z. l.1.1.0 ++ z) m.1 ∙ sym (append_assoc l.1.1.0 m.0 new),
    ),
  ),
)

-- without a fault after a call there was none before it
none_before : (old new : Emitter) → Stays old new → new.fault ≡ None → (f : Option Fault)
    → old.fault ≡ f → old.fault ≡ None
none_before old new s h None e = e
none_before old new s h (Some f) e =
    let same : new ≡ old = s f e in
    absurd (let k : old.fault ≡ None = ap (λ (z : Emitter). z.fault) (sym same) ∙ h in cc)

last_on : (before all es rest : List Event) (old new : Emitter) (x : Event) → es ≡ x ∷ rest
    → (old.fault ≡ None → LastGiven before all es old.held) → Stays old new
    → (old.fault ≡ None → AreLast (old.held ++ x ∷ []) new.held)
    → new.fault ≡ None → LastGiven before all rest new.held
last_on before all es rest old new x is l s m none =
    let free = none_before old new s none old.fault refl in
    last_more before all rest old.held new.held x (subst (λ (z : List Event). LastGiven before all z old.held) is (l free)) (m free)

pub last_record : (bytes : List ℕ) (list : List yaml_c_directive) (rs : List yaml_c_event) (i : ℕ)
    (d : yaml_c_event) (b : EventBody) (before all : List Event) (old new : Emitter)
    → i < length rs → is_some (events_meant bytes list (drop i rs)) ≡ true
    → event_meant bytes list (get_or rs i d) ≡ Some b
    → (old.fault ≡ None
    → LastGiven before all (all_events (events_meant bytes list (drop i rs))) old.held)
    → Stays old new → (old.fault ≡ None → AreLast (old.held ++ emitter_event b ∷ []) new.held)
    → new.fault ≡ None
    → LastGiven before all (all_events (events_meant bytes list (drop (i + 1) rs))) new.held
last_record bytes list rs i d b before all old new h m is l s n none = last_on before all _ _ old new (emitter_event b) (events_left bytes list rs i d b h m is) l s n none

-- ---- all of them

some_long : (x : yaml_c_event) (rs : List yaml_c_event) → (length (x ∷ rs) == 0) ≡ true → ⊥
some_long x rs h = grind (arith, nat_tests, h)

no_records : (bytes : List ℕ) (list : List yaml_c_directive) (rs : List yaml_c_event) (r : Bool)
    → r ≡ (length rs == 0) → r ≡ true → all_events (events_meant bytes list rs) ≡ []
no_records bytes list [] r is on = none_left bytes list
no_records bytes list (x ∷ rs) r is on = absurd (some_long x rs (sym is ∙ on))

pub gives_none : (bytes : List ℕ) (list : List yaml_c_directive) (rs : List yaml_c_event)
    (e : Emitter) (r : Bool) → r ≡ (length rs == 0) → r ≡ true
    → TakesAllEvents e (all_events (events_meant bytes list rs)) e
gives_none bytes list rs e r is on =
    let P : List Event → Type 0 = λ es. TakesAllEvents e es e in
    subst P (sym (no_records bytes list rs r is on)) (record {
      leads = leads_same e [];
      last = λ none. ([], append-nil e.held);
      few = λ few. few;
      none = λ h. refl;
    })

front_there : (o : Option EventBody) (bs : Option (List EventBody))
    → is_some (body_in_front o bs) ≡ true → all_events (body_in_front o bs) ≡ [] → ⊥
front_there None bs h e = cc
front_there (Some b) None h e = cc
front_there (Some b) (Some bs) h e = cc

some_records : (bytes : List ℕ) (list : List yaml_c_directive) (rs : List yaml_c_event) (r : Bool)
    → r ≡ (length rs == 0) → r ≡ false → is_some (events_meant bytes list rs) ≡ true
    → all_events (events_meant bytes list rs) ≡ [] → ⊥
unfolding events_meant
some_records bytes list [] r is off m e = cc
some_records bytes list (x ∷ rs) r is off m e = front_there (event_meant bytes list x) (events_meant bytes list rs) m e

last_end : (before all held : List Event) → LastGiven before all [] held
    → AreLast (before ++ all) held
last_end before all held l =
    let same : all ≡ l.0 = l.1.0 ∙ append-nil l.0 in
    (l.1.1.0, ap (λ z. before ++ z) same ∙ l.1.1.1)

pub gives_end : (bytes : List ℕ) (list : List yaml_c_directive) (rs : List yaml_c_event) (i : ℕ)
    (first new : Emitter) (r : Bool) → r ≡ (length rs == 0) → r ≡ false
    → is_some (events_meant bytes list rs) ≡ true → length rs ≤ i
    → LeadsOnward first (all_events (events_meant bytes list rs)) new
    (all_events (events_meant bytes list (drop i rs)))
    → (new.fault ≡ None → LastGiven first.held (all_events (events_meant bytes list rs))
    (all_events (events_meant bytes list (drop i rs))) new.held)
    → (length first.held ≤ 3 → length new.held ≤ 3)
    → TakesAllEvents first (all_events (events_meant bytes list rs)) new
gives_end bytes list rs i first new r is off m h l last few =
    let all = all_events (events_meant bytes list rs) in
    let gone : all_events (events_meant bytes list (drop i rs)) ≡ [] = ap (λ es. all_events (events_meant bytes list es)) (drop_all i rs h) ∙ none_left bytes list in
    record {
      leads = leads_end bytes list rs i first new all h l;
      last = λ none. last_end first.held all new.held (subst (λ (z : List Event). LastGiven first.held all z new.held) gone (last none));
      few = few;
      none = λ e. absurd (some_records bytes list rs r is off m e);
    }
