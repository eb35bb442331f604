-- What a call finds, as the next event.
use Rattle.std.proofs.Common.{◌≡◌, List, [], Option, Result, Ok, Err, IfOk, IfErr, refl, sym, subst}
use Rattle.yaml_scan_model.specs.declared.fault.yaml_fault_t.{yaml_fault_t}
use Rattle.yaml_scan_model.specs.scan_types.Faults.{Fault, fault_of}
use Rattle.yaml_parse_model.specs.declared.yaml_event_t.{yaml_event_t}
use Rattle.yaml_parse_model.specs.Constructors.{HasUtf8}
use Rattle.yaml_parse_model.specs.Events.{Event, event_of, no_event}
use Rattle.yaml_parse.specs.declared.found.yaml_found_t.{yaml_found_t}
use Rattle.yaml_parse.specs.declared.found.yaml_found_t.TheVariants as found
use Rattle.yaml_parse_laws_trees.specs.parse_grammar.Resolve.{Told}
use Rattle.yaml_parse_laws_trees.specs.parse_grammar.Remaining.{ParserRemaining, GivesEvent, EventOf, FaultOf}
use Rattle.yaml_parse_laws_trees.specs.parse_grammar.Stacks.{parts_documents_behind}
use Rattle.yaml_parse.specs.Finds.{GivesNext, GivesEnd, Finds, IsUtf8Found, IsStackFound}
use Rattle.yaml_parse.specs.HandsOut.{HandsOut}

event_found : (e given : Event) (o n : ParserRemaining) → GivesNext e o n → given ≡ e
    → EventOf o given n
event_found e given o n g same =
    subst (λ (gs : List Told). GivesEvent gs o.ending given o n) (sym g.events)
    (record { given = same; events = refl; ending = g.ending; ending_unasked = g.ending_unasked; unasked = refl; answered = g.answered })

end_found : (e : Event) (o n : ParserRemaining) → GivesEnd o n → e ≡ no_event → EventOf o e n
end_found e o n g is_none =
    subst (λ (gs : List Told). GivesEvent gs o.ending e o n) (sym g.events)
    (subst (λ (f : Option Fault). GivesEvent [] f e o n) (sym g.ending)
    (record { given = is_none; finished = g.nothing.finished; unasked = g.nothing.unasked; held = g.nothing.held; answered = g.nothing.answered }))

-- ---- what is handed out of it

pub handed_event : (k : yaml_found_t) (e : Event) (f told : Fault)
    (r : Result yaml_event_t yaml_fault_t) (o n : ParserRemaining) → Finds o k e f n
    → HandsOut k e told r → IfOk r (λ x. EventOf o (event_of x) n)
handed_event found.Event e f told (Ok x) o n g h = event_found e (event_of x) o n g h
handed_event found.Refused e f told (Ok x) o n g h = absurd h
handed_event found.End e f told (Ok x) o n g h = end_found (event_of x) o n g h
handed_event k e f told (Err t) o n g h = tt

pub handed_fault : (k : yaml_found_t) (e given : Event) (f : Fault)
    (r : Result yaml_event_t yaml_fault_t) (o n : ParserRemaining) → Finds o k e f n
    → HandsOut k given f r → IfErr r (λ x. FaultOf o (fault_of x) n)
handed_fault found.Event e given f (Err t) o n g h = absurd h
handed_fault found.Refused e given f (Err t) o n g h = subst (λ (z : Fault). FaultOf o z n) (sym h) g
handed_fault found.End e given f (Err t) o n g h = absurd h
handed_fault k e given f (Ok x) o n g h = tt

pub handed_utf8 : (k : yaml_found_t) (e : Event) (f : Fault) (r : Result yaml_event_t yaml_fault_t)
    → IsUtf8Found k e → HandsOut k e f r → IfOk r (λ x. HasUtf8 (event_of x).body)
handed_utf8 found.Event e f (Ok x) u h = subst (λ (z : Event). HasUtf8 z.body) (sym h) u
handed_utf8 found.Refused e f (Ok x) u h = absurd h
handed_utf8 found.End e f (Ok x) u h = subst (λ (z : Event). HasUtf8 z.body) (sym h) tt
handed_utf8 k e f (Err t) u h = tt

pub handed_between : (k : yaml_found_t) (e : Event) (f told : Fault)
    (r : Result yaml_event_t yaml_fault_t) (o n : ParserRemaining) → Finds o k e f n
    → IsStackFound k e n.between → HandsOut k e told r
    → IfOk r (λ x. n.between ≡ parts_documents_behind (event_of x).body)
handed_between found.Event e f told (Ok x) o n g b h = subst (λ (z : Event). n.between ≡ parts_documents_behind z.body) (sym h) b
handed_between found.Refused e f told (Ok x) o n g b h = absurd h
handed_between found.End e f told (Ok x) o n g b h = subst (λ (z : Event). n.between ≡ parts_documents_behind z.body) (sym h) g.nothing.finished.between
handed_between k e f told (Err t) o n g b h = tt
