-- What is held, and when it is laid out: the last events that were given.
use Rattle.std.proofs.Common.{◌≡◌, List, [], ◌∷◌, ◌++◌, length, Bool, true, false, refl, sym, ◌∙◌, ap, arith, append_assoc}
use Rattle.std.specs.Prelude.{◌||◌, ◌≤◌, map}
use Rattle.std.proofs.lemmas.Bool.{le-leb, false≢true}
use Rattle.yaml_emit_layout.specs.Content.{Event, no_event, sequence_start, mapping_start, emitter_event}
use Rattle.yaml_emit_layout.specs.State.{opens_empty}
use Rattle.yaml_parse_model.specs.Events.{EventBody, body_of}
use Rattle.yaml_emit_machine.specs.declared.held.Held.{Held}
use Rattle.yaml_emit_machine.specs.declared.held.Count.{Count}
use Rattle.yaml_emit_machine.specs.declared.held.Count.TheVariants.{Nothing}
use Rattle.yaml_emit_machine.specs.Held.{is_ready, needs, closes, ends_level, releases, passes, asks_next, are_some, back, all_held, later_bodies, held_events, oldest_event, later_events, AreLast}
use Rattle.std.proofs.lemmas.List.{append-nil}

-- Whether an event opens an empty collection is decided by what has come, once it is ready: what
-- follows changes nothing.
pub ready_empty : (e : Event) (es more : List Event) → is_ready (e ∷ es) ≡ true
    → opens_empty e (es ++ more) ≡ opens_empty e es
unfolding is_ready opens_empty
ready_empty (sequence_start p) [] more h = absurd (cc)
ready_empty (mapping_start p) [] more h = absurd (cc)
ready_empty (sequence_start p) (f ∷ es) more h = refl
ready_empty (mapping_start p) (f ∷ es) more h = refl
ready_empty _ es more h = refl

-- of one event alone, closing is ending a level
pub closes_last : (e : Event) → ends_level e ≡ closes (e ∷ [])
closes_last no_event = refl
closes_last _ = refl

-- what has after it what it needs is ready
pub enough : (e : Event) (es : List Event) → needs e ≤ length es → is_ready (e ∷ es) ≡ true
unfolding is_ready
enough e es h = ap (λ v. v || closes es) (le-leb (needs e) (length es) h)

-- no event waits for more than three that follow
pub few_needs : (e : Event) → needs e ≤ 3
few_needs no_event = omega arith
few_needs _ = omega arith

pub three_enough : (e : Event) (es : List Event) → 3 ≤ length es → is_ready (e ∷ es) ≡ true
three_enough e es h = let few = few_needs e in enough e es (omega (arith, few, h))

pub none_needed : (e : Event) (es : List Event) → needs e ≡ 0 → is_ready (e ∷ es) ≡ true
none_needed e es h = enough e es (omega (arith, h))

-- three wait at most
pub few_short : (xs : List Event) → is_ready xs ≡ false → length xs ≤ 3
few_short [] h = omega arith
few_short (a ∷ []) h = omega arith
few_short (a ∷ b ∷ []) h = omega arith
few_short (a ∷ b ∷ c ∷ []) h = omega arith
few_short (a ∷ b ∷ c ∷ d ∷ xs) h = let k = three_enough a (b ∷ c ∷ d ∷ xs) (omega arith) in absurd (cc)

pub released_ready : (xs : List Event) (f : Event) → releases xs f ≡ true
    → is_ready (xs ++ f ∷ []) ≡ true
released_ready [] f h = absurd (cc)
released_ready (e ∷ es) f h = h

-- what is let out is held
pub some_released : (xs : List Event) (f : Event) → releases xs f ≡ true → are_some xs ≡ true
some_released [] f h = absurd (cc)
some_released (e ∷ es) f h = refl

-- an event that neither releases others nor passes has to be held after them
pub waits_as : (xs : List Event) (f : Event) → releases xs f ≡ false → passes xs f ≡ false
    → is_ready (xs ++ f ∷ []) ≡ false
waits_as [] f r p = p
waits_as (e ∷ es) f r p = r

pub pushed_waits : (xs ys : List Event) (f : Event) → ys ≡ xs ++ f ∷ [] → releases xs f ≡ false
    → passes xs f ≡ false → is_ready ys ≡ false
pushed_waits xs ys f same r p = ap is_ready same ∙ waits_as xs f r p

none_waits : is_ready [] ≡ false
unfolding is_ready
none_waits = refl

pub none_ready : (xs : List Event) → xs ≡ [] → is_ready xs ≡ false
none_ready xs h = ap is_ready h ∙ none_waits

-- one that is to wait for the next one isn't ready
pub asked_waits : (canonical : Bool) (e : Event) → asks_next canonical e ≡ true
    → is_ready (e ∷ []) ≡ false
unfolding is_ready
asked_waits true e h = absurd (false≢true h)
asked_waits false (sequence_start q) h = refl
asked_waits false (mapping_start q) h = refl
asked_waits false _ h = absurd (cc)

pub asks_waits : (canonical : Bool) (held : List Event) (e : Event) → held ≡ []
    → asks_next canonical e ≡ true → is_ready (held ++ e ∷ []) ≡ false
asks_waits canonical held e none h = rw none (asked_waits canonical e h)

-- one that passes leaves none
pub passed_waits : (xs : List Event) (f : Event) → passes xs f ≡ true → is_ready xs ≡ false
passed_waits [] f h = none_waits
passed_waits (e ∷ es) f h = absurd (cc)

first_held : (k : Count) (a : EventBody) (bs : List EventBody)
    → are_some (map emitter_event (all_held k a bs)) ≡ true → all_held k a bs ≡ a ∷ bs
first_held Nothing a bs r = absurd (cc)
first_held _ a bs r = refl

-- what is held, where any is
pub oldest_first : (h : Held) → are_some (held_events h) ≡ true
    → held_events h ≡ oldest_event h ∷ later_events h
oldest_first h r = ap (map emitter_event) (first_held h.count (body_of h.first) (later_bodies h) r)

most_by : (k : Count) (a b c : EventBody)
    → length (map emitter_event (all_held k a (back k b c))) ≤ 3
most_by Nothing a b c = omega arith
most_by _ a b c = omega arith

-- three are held at most
pub three_most : (h : Held) → length (held_events h) ≤ 3
three_most h = most_by h.count (body_of h.first) (body_of h.second) (body_of h.third)

pub one_less : (h : Held) (xs : List Event) (e : Event) → held_events h ≡ e ∷ xs → length xs ≤ 2
one_less h xs e same =
    let most = three_most h in
    let less = rw same at most in
    omega (arith, less)

-- the oldest is gone
pub last_less : (all held left : List Event) (e : Event) → AreLast all held → held ≡ e ∷ left
    → AreLast all left
last_less all held left e l h = (l.0 ++ e ∷ [], l.1 ∙ ap (λ z. l.0 ++ z) h ∙ sym (append_assoc l.0 (e ∷ []) left))

-- an event needn't be held, and none is
pub last_passed : (all held : List Event) (e : Event) → passes held e ≡ true → AreLast all held
last_passed all [] e h = (all, sym (append-nil all))
last_passed all (f ∷ fs) e h = absurd (cc)

-- it is held after the others
pub last_pushed : (all held new : List Event) (e : Event) → AreLast all held → new ≡ held ++ e ∷ []
    → AreLast (all ++ e ∷ []) new
last_pushed all held new e l h = (l.0, ap (λ z. z ++ e ∷ []) l.1 ∙ append_assoc l.0 held (e ∷ []) ∙ ap (λ z. l.0 ++ z) (sym h))

-- none is held any longer
pub last_none : (all new : List Event) → new ≡ [] → AreLast all new
last_none all new h = (all, sym (append-nil all) ∙ ap (λ z. all ++ z) (sym h))
