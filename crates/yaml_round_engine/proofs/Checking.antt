-- Whether an input loads, by its events.
use Rattle.std.proofs.Common.{◌≡◌, ◌⊎◌, ◌∙◌, inl, inr, refl, sym, subst, ℕ, List, [], ◌∷◌, true, false, Option, None, Some, Ok, Err}
use Rattle.std.proofs.Math.Bool.{true≢false}
use Rattle.yaml_parse.specs.declared.yaml_encoding_t.{yaml_encoding_t}
use Rattle.yaml_parse.specs.declared.yaml_fault_t.{yaml_fault_t}
use Rattle.yaml_parse.specs.declared.yaml_mark_t.{yaml_mark_t}
use Rattle.yaml_scan_types.specs.Faults.{Fault, fault_of, IsMemoryFault, load_layers, parse_layers}
use Rattle.yaml_parse.specs.Events.{Event, EventBody}
use Rattle.yaml_parse.specs.Nodes.{Node}
use Rattle.yaml_parse.specs.Documents.{Document}
use Rattle.yaml_parse.specs.Resolve.{Told}
use Rattle.yaml_parse.specs.Remaining.{ParserRemaining}
use Rattle.yaml_parse.specs.Finds.{GivesNext}
use Rattle.yaml_parse.specs.Numbering.{undefined_alias}
use Rattle.yaml_parse.specs.Loading.{Loading, LoadStep, goes_on, loaded, refused, nothing_loaded, step, step_body}
use Rattle.yaml_round_content.specs.Input.{ReadsInput}
use Rattle.yaml_round_content.specs.Loads.{Loads, in_front, load_on, load_all, loads_of}
use Rattle.yaml_round_content.proofs.Loaded.{faultless_load, faulty_load}
use Rattle.yaml_round_engine.specs.declared.known.Known.{Known}
use Rattle.yaml_round_engine.specs.declared.known.Passed.{Passed}
use Rattle.yaml_round_engine.specs.declared.known.Passed.TheVariants as passed
use Rattle.yaml_round_engine.specs.Knowing.{has_nodes, IsKnown, Follows}
use Rattle.yaml_round_engine.specs.Checking.{IsChecked, LoadsOn}

-- ---- a step

whole : (ns : List Node) (d : Document) (rest : Loads) → has_nodes ns ≡ true
    → (in_front ns d rest).fault ≡ rest.fault
whole [] d rest h = absurd (true≢false (sym h))
whole (n ∷ ns) d rest h = refl

empty : (ns : List Node) (d : Document) (rest : Loads) → has_nodes ns ≡ false
    → (in_front ns d rest).fault ≡ None
empty [] d rest h = refl
empty (n ∷ ns) d rest h = absurd (true≢false h)

goes : (s : LoadStep) (at : yaml_mark_t) (k : Known) (rest : Loading → Loads)
    → Follows s at passed.On k
    → (l : Loading) × (IsKnown k l × ((load_on s rest).fault ≡ (rest l).fault))
goes (goes_on l) at k rest h = (l, (h, refl))
goes (loaded d) at k rest h = (nothing_loaded, (h.1, whole d.nodes d (rest nothing_loaded) h.0))
goes (refused f) at k rest h = absurd h

-- what ends the loads there
abbrev Stops : Passed → yaml_mark_t → Option Fault → Type 0
Stops passed.On at fault = Unit {0}
Stops passed.Over at fault = fault ≡ None
Stops passed.Undefined at fault = fault ≡ Some (undefined_alias at)
Stops passed.Starved at fault = Unit {0}

stops : (r : Passed) (s : LoadStep) (at : yaml_mark_t) (k : Known) (rest : Loading → Loads)
    → Follows s at r k → Stops r at (load_on s rest).fault
stops passed.On s at k rest h = tt
stops passed.Starved s at k rest h = tt
stops passed.Over (goes_on l) at k rest h = absurd h
stops passed.Over (loaded d) at k rest h = empty d.nodes d (rest nothing_loaded) h
stops passed.Over (refused f) at k rest h = absurd h
stops passed.Undefined (goes_on l) at k rest h = absurd h
stops passed.Undefined (loaded d) at k rest h = absurd h
stops passed.Undefined (refused f) at k rest h = rw h refl

-- what an event of that body comes to, wherever it is, is what this one does
pub passed_event : (e : Event) (b : EventBody) (k after : Known) (r : Passed) → b ≡ e.body
    → ((l : Loading) (from to : yaml_mark_t) → IsKnown k l → Follows (step_body b from to l) from r after)
    → (l : Loading) → IsKnown k l → Follows (step e l) e.start_mark r after
passed_event e b k after r is f = subst (λ (z : EventBody). (l : Loading) → IsKnown k l → Follows (step_body z e.start_mark e.end_mark l) e.start_mark r after) is (λ l h. f l e.start_mark e.end_mark h)

-- ---- all events

at_event : (e : Event) (left : ℕ) (gs : List Told) (f : Option Fault) (l : Loading)
    (fault : Option Fault) → (load_all ((e, left) ∷ gs) f l).fault ≡ fault
    → (load_on (step e l) (load_all gs f)).fault ≡ fault
unfolding load_all
at_event e left gs f l fault h = h

given : (old new : ParserRemaining) (e : Event) (l : Loading) (fault : Option Fault)
    → GivesNext e old new → (load_all old.events old.ending l).fault ≡ fault
    → (load_on (step e l) (load_all new.events new.ending)).fault ≡ fault
given old new e l fault g h =
    let p = subst (λ (es : List Told). (load_all es old.ending l).fault ≡ fault) g.events h in
    let q = subst (λ (f : Option Fault). (load_all ((e, new.unasked) ∷ new.events) f l).fault ≡ fault) (sym g.ending) p in
    at_event e new.unasked new.events new.ending l fault q

pub next_event : (old new : ParserRemaining) (e : Event) (k after : Known) (r : Passed)
    (fault : Option Fault) → GivesNext e old new
    → ((l : Loading) → IsKnown k l → Follows (step e l) e.start_mark r after) → r ≡ passed.On
    → LoadsOn k old fault → LoadsOn after new fault
next_event old new e k after r fault g f is h =
    let rest : Loading → Loads = load_all new.events new.ending in
    let t = goes (step e h.0) e.start_mark after rest (subst (λ (z : Passed). Follows (step e h.0) e.start_mark z after) is (f h.0 h.1.0)) in
    (t.0, (t.1.0, sym t.1.1 ∙ given old new e h.0 fault g h.1.1))

last_event : (old new : ParserRemaining) (e : Event) (k after : Known) (r : Passed)
    (fault : Option Fault) → GivesNext e old new
    → ((l : Loading) → IsKnown k l → Follows (step e l) e.start_mark r after)
    → LoadsOn k old fault → Stops r e.start_mark fault
last_event old new e k after r fault g f h =
    subst (λ (z : Option Fault). Stops r e.start_mark z) (given old new e h.0 fault g h.1.1)
    (stops r (step e h.0) e.start_mark after (load_all new.events new.ending) (f h.0 h.1.0))

pub over_event : (old new : ParserRemaining) (e : Event) (k after : Known) (r : Passed)
    (fault : Option Fault) → GivesNext e old new
    → ((l : Loading) → IsKnown k l → Follows (step e l) e.start_mark r after) → r ≡ passed.Over
    → LoadsOn k old fault → fault ≡ None
over_event old new e k after r fault g f is h =
    subst (λ (z : Passed). Stops z e.start_mark fault) is (last_event old new e k after r fault g f h)

pub undefined_event : (old new : ParserRemaining) (e : Event) (k after : Known) (r : Passed)
    (fault : Option Fault) → GivesNext e old new
    → ((l : Loading) → IsKnown k l → Follows (step e l) e.start_mark r after)
    → r ≡ passed.Undefined → LoadsOn k old fault → fault ≡ Some (undefined_alias e.start_mark)
undefined_event old new e k after r fault g f is h =
    subst (λ (z : Passed). Stops z e.start_mark fault) is (last_event old new e k after r fault g f h)

pub first_event : (from : yaml_encoding_t) (input : List ℕ) (r : ParserRemaining)
    → ReadsInput from input r
    → (load_all r.events r.ending nothing_loaded).fault ≡ (loads_of from input).fault
first_event from input r h = rw (h.events, h.ending) refl

-- ---- the answer

pub accepted : (from : yaml_encoding_t) (input : List ℕ) → (loads_of from input).fault ≡ None
    → IsChecked from input (Ok tt)
accepted from input e = ((loads_of from input).documents, faultless_load from input e)

pub faulty : (from : yaml_encoding_t) (input : List ℕ) (f : yaml_fault_t)
    → (loads_of from input).fault ≡ Some (fault_of f)
    → IsMemoryFault load_layers (fault_of f) ⊎ IsChecked from input (Err (fault_of f))
faulty from input f e = inr (faulty_load from input (fault_of f) e)

-- nothing is to come but a fault or none
no_event : (c : ParserRemaining) (k : Known) (ending fault : Option Fault)
    → LoadsOn k c fault → c.events ≡ [] → c.ending ≡ ending → ending ≡ fault
unfolding load_all
no_event c k ending fault h e is =
    let p = subst (λ (es : List Told). (load_all es c.ending h.0).fault ≡ fault) e h.1.1 in
    sym is ∙ p

pub all_seen : (from : yaml_encoding_t) (input : List ℕ) (c : ParserRemaining) (k : Known)
    → LoadsOn k c (loads_of from input).fault → c.events ≡ [] → c.ending ≡ None
    → IsChecked from input (Ok tt)
all_seen from input c k h e is = accepted from input (sym (no_event c k None (loads_of from input).fault h e is))

pub fault_seen : (from : yaml_encoding_t) (input : List ℕ) (c : ParserRemaining) (k : Known)
    (f : yaml_fault_t) (answered : Fault) → LoadsOn k c (loads_of from input).fault
    → fault_of f ≡ answered
    → IsMemoryFault parse_layers answered ⊎ ((c.events ≡ []) × (c.ending ≡ Some answered))
    → IsMemoryFault load_layers (fault_of f) ⊎ IsChecked from input (Err (fault_of f))
fault_seen from input c k f answered h is m =
    let met = subst (λ (z : Fault). IsMemoryFault parse_layers z ⊎ ((c.events ≡ []) × (c.ending ≡ Some z))) (sym is) m in
    elim met [ inl m ↦ inl (inr m) | inr e ↦ faulty from input f (sym (no_event c k (Some (fault_of f)) (loads_of from input).fault h e.0 e.1)) ]
