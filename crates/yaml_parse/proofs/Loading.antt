-- What feeding a loader with a parser's events comes to.
use Rattle.std.proofs.Common.{◌≡◌, ◌⊎◌, ◌≤◌, ℕ, inl, inr, List, [], ◌∷◌, Option, Some, None, Result, refl, sym, ap, subst, ◌∙◌, arith}
use Rattle.yaml_scan_model.specs.declared.fault.yaml_origin_t.TheVariants.{Loader}
use Rattle.yaml_scan_model.specs.scan_types.Faults.{Fault, IsMemoryFault, memory_fault, scan_layers}
use Rattle.yaml_parse_model.specs.Source.{HasMore}
use Rattle.yaml_parse_model.specs.Events.{Event, EventBody}
use Rattle.yaml_parse_model.specs.declared.yaml_mark_t.{yaml_mark_t}
use Rattle.yaml_parse_model.specs.declared.yaml_fault_t.{yaml_fault_t}
use Rattle.yaml_parse_grammar.specs.Resolve.{Told}
use Rattle.yaml_parse_laws_trees.specs.parse_model.Documents.{Document, no_document}
use Rattle.yaml_parse_grammar.specs.Remaining.{FaultOf, IsFinished, ParserRemaining, next_unasked}
use Rattle.yaml_parse.specs.Finds.{GivesEnd, GivesNext}
use Rattle.yaml_parse_laws_trees.specs.parse_loader.Loading.{Feeds, Loading, LoadStep, goes_on, loaded, refused, step, step_body}
use Rattle.yaml_parse_laws_trees.specs.NextLoad.{left_behind}
use Rattle.yaml_parse_laws_trees.proofs.ByStep.{Loads, load_on, behind_all, loads, loads_of, unasked_on, unasked_at_refusal, unasked_of, unasked_by, answer_unasked, LoadGives, LoadRefuses, KeepsLoading}
use Rattle.yaml_parse_laws_trees.specs.Falling.{AreFalling}
use Rattle.yaml_parse_laws_trees.proofs.Falling.{has_more, nothing_more}

-- the next event is fed: what is loaded, what is asked for then, and what is left
fed : (i o n : ParserRemaining) (l : Loading) (e : Event) (c : LoadStep) → KeepsLoading i o l
    → GivesNext e o n → step e l ≡ c
    → (loads_of i ≡ load_on c (loads n.events o.ending) n.events n.unasked)
    × (unasked_of i ≡ unasked_on c n.unasked (unasked_at_refusal n.events o.ending_unasked))
    × (left_behind n.events n.unasked ≡ left_behind i.events i.unasked)
unfolding loads unasked_at_refusal left_behind
fed i o n l e c k h s = (
  sym k.same ∙ ap (λ (gs : List Told). loads gs o.ending l) h.events ∙ ap (λ (x : LoadStep). load_on x (loads n.events o.ending) n.events n.unasked) s,
  sym k.unasked ∙ ap (λ (gs : List Told). unasked_at_refusal gs o.ending_unasked l) h.events ∙ ap (λ (x : LoadStep). unasked_on x n.unasked (unasked_at_refusal n.events o.ending_unasked)) s,
  sym (ap (λ (gs : List Told). left_behind gs o.unasked) h.events) ∙ k.left,
)

-- What a loader makes of an event that it was given in parts.
pub fed_in_parts : (b : EventBody) (from to : yaml_mark_t) (e : Event) (l m : Loading)
    (r : Result (Option Document) yaml_fault_t) → b ≡ e.body → from ≡ e.start_mark
    → to ≡ e.end_mark → Feeds (step_body b from to l) r m → Feeds (step e l) r m
fed_in_parts b from to e l m r body start end h =
    subst (λ (z : EventBody). Feeds (step_body z e.start_mark e.end_mark l) r m) body
    (subst (λ (z : yaml_mark_t). Feeds (step_body b z e.end_mark l) r m) start
    (subst (λ (z : yaml_mark_t). Feeds (step_body b from z l) r m) end h))

-- A loader goes on after an event that its step takes.
pub keeps_on : (i o n : ParserRemaining) (l m : Loading) (e : Event) → KeepsLoading i o l
    → GivesNext e o n → step e l ≡ goes_on m → KeepsLoading i n m
keeps_on i o n l m e k h s = record {
  falls = subst (AreFalling n.events) (sym h.ending_unasked) (subst (λ (z : List Told). AreFalling z o.ending_unasked) h.events k.falls).1;
  none = λ p. let bad = sym h.events ∙ k.none p in cc;
  same = ap (λ (f : Option Fault). loads n.events f m) h.ending ∙ sym (fed i o n l e (goes_on m) k h s).0;
  unasked = ap (λ (u : ℕ). unasked_at_refusal n.events u m) h.ending_unasked ∙ sym (fed i o n l e (goes_on m) k h s).1;
  left = (fed i o n l e (goes_on m) k h s).2;
  ending = h.ending ∙ k.ending;
  ending_unasked = h.ending_unasked ∙ k.ending_unasked;
  answered = h.answered ∙ k.answered;
}

-- A loader whose step ends a document gives it.
pub loads_document : (i o n : ParserRemaining) (l : Loading) (e : Event) (d : Document)
    → KeepsLoading i o l → GivesNext e o n → step e l ≡ loaded d → LoadGives (loads_of i) d i n
loads_document i o n l e d k h s =
    subst (λ (r : Loads). LoadGives r d i n) (sym (fed i o n l e (loaded d) k h s).0)
    (refl, record { events = refl; ending = h.ending ∙ k.ending; ending_unasked = h.ending_unasked ∙ k.ending_unasked; unasked = refl; answered = h.answered ∙ k.answered })

all_fed : (i o : ParserRemaining) (l : Loading) (f : Option Fault) → KeepsLoading i o l
    → o.events ≡ [] → o.ending ≡ f
    → (loads_of i ≡ behind_all f) × (unasked_of i ≡ o.ending_unasked)
    × (o.unasked ≡ left_behind i.events i.unasked)
unfolding loads unasked_at_refusal left_behind
all_fed i o l f k p q = (
  sym k.same ∙ ap (λ (gs : List Told). loads gs o.ending l) p ∙ ap behind_all q,
  sym k.unasked ∙ ap (λ (gs : List Told). unasked_at_refusal gs o.ending_unasked l) p,
  sym (ap (λ (gs : List Told). left_behind gs o.unasked) p) ∙ k.left,
)

-- At the stream's end a loader gives the document without root.
pub loads_nothing : (i o n : ParserRemaining) (l : Loading) (d : Document) → KeepsLoading i o l
    → GivesEnd o n → d ≡ no_document → LoadGives (loads_of i) d i n
loads_nothing i o n l d k h e =
    subst (λ (r : Loads). LoadGives r d i n) (sym (all_fed i o l None k h.events h.ending).0)
    (e, record { finished = h.nothing.finished; unasked = h.nothing.unasked ∙ (all_fed i o l None k h.events h.ending).2; answered = h.nothing.answered ∙ k.answered })

-- A loader passes a fault of the parser on as its own.
pub load_faulty : (i o n : ParserRemaining) (l : Loading) (f : Fault) → KeepsLoading i o l
    → FaultOf o f n → LoadRefuses f i n
load_faulty i o n l f k h = record {
  finished = h.finished;
  answered = h.answered;
  reason = elim h.reason [ inl m ↦ inl (inr m) | inr q ↦ inr (all_fed i o l (Some f) k q.0 q.1).0 ];
  unasked = elim h.reason [ inl m ↦ inl (inr m) | inr q ↦ elim h.unasked [ inl m ↦ inl (inr m) | inr u ↦ inr (u ∙ sym (all_fed i o l (Some f) k q.0 q.1).1) ] ];
}

-- A loader that refuses an event, or finds no memory, refuses the load.
pub load_refused : (i o n n' : ParserRemaining) (l : Loading) (e : Event) (f : Fault)
    → KeepsLoading i o l → GivesNext e o n
    → (f ≡ memory_fault Loader) ⊎ (step e l ≡ refused f) → IsFinished n' → n'.answered ≡ f
    → n'.unasked ≡ n.unasked → LoadRefuses f i n'
load_refused i o n n' l e f k h r p q u = record {
  finished = p;
  answered = q;
  reason = elim r [ inl m ↦ inl (inl m) | inr s ↦ inr (fed i o n l e (refused f) k h s).0 ];
  unasked = elim r [ inl m ↦ inl (inl m) | inr s ↦ inr (u ∙ sym (fed i o n l e (refused f) k h s).1) ];
}

-- ---- what a refusal has to come, and has asked for

-- Where a loader still has something to come it had from the start.
pub load_more : (i o : ParserRemaining) (l : Loading) → KeepsLoading i o l
    → HasMore o.events o.ending → HasMore i.events i.ending
load_more i o l k h = has_more i.events i.ending (λ p q. nothing_more o.events o.ending (k.none p) (k.ending ∙ q) h)

unasked_step : (c : LoadStep) (go : Loading → Loads) (u : Loading → ℕ) (rest : List Told)
    (left end n : ℕ) → left ≤ n → ((m : Loading) → unasked_by (go m) (u m) end ≤ left)
    → unasked_by (load_on c go rest left) (unasked_on c left u) end ≤ n
unasked_step (goes_on m) go u rest left end n l h = let x = h m in omega (arith, x, l)
unasked_step (loaded d) go u rest left end n l h = l
unasked_step (refused f) go u rest left end n l h = l

unasked_within : (gs : List Told) (f : Option Fault) (m n : ℕ) (l : Loading) → next_unasked gs m ≤ n
    → AreFalling gs m → unasked_by (loads gs f l) (unasked_at_refusal gs m l) (left_behind gs n) ≤ n
unfolding loads unasked_at_refusal left_behind
unasked_within [] None m n l h d = omega arith
unasked_within [] (Some e) m n l h d = h
unasked_within (g ∷ gs) f m n l h d = unasked_step (step g.0 l) (loads gs f) (unasked_at_refusal gs m) gs g.1 (left_behind gs g.1) n h (λ k. unasked_within gs f m g.1 k d.0 d.1)

unasked_next : (gs : List Told) (f : Option Fault) (m n : ℕ) (l : Loading) → HasMore gs f
    → AreFalling gs m
    → unasked_by (loads gs f l) (unasked_at_refusal gs m l) (left_behind gs n) ≤ next_unasked gs m
unfolding loads unasked_at_refusal left_behind
unasked_next [] None m n l h d = absurd h
unasked_next [] (Some e) m n l h d = omega arith
unasked_next (g ∷ gs) f m n l h d = unasked_step (step g.0 l) (loads gs f) (unasked_at_refusal gs m) gs g.1 (left_behind gs g.1) g.1 (omega arith) (λ k. unasked_within gs f m g.1 k d.0 d.1)

unasked_first : (i o : ParserRemaining) (l : Loading) → KeepsLoading i o l
    → HasMore o.events o.ending → answer_unasked i ≤ next_unasked o.events o.ending_unasked
unasked_first i o l k h =
    let same : unasked_by (loads o.events o.ending l) (unasked_at_refusal o.events o.ending_unasked l) (left_behind o.events o.unasked) ≡ answer_unasked i =
    ap (λ (r : Loads). unasked_by r (unasked_at_refusal o.events o.ending_unasked l) (left_behind o.events o.unasked)) k.same
    ∙ ap (λ (u : ℕ). unasked_by (loads_of i) u (left_behind o.events o.unasked)) k.unasked
    ∙ ap (λ (u : ℕ). unasked_by (loads_of i) (unasked_of i) u) k.left in
    subst (λ (x : ℕ). x ≤ next_unasked o.events o.ending_unasked) same (unasked_next o.events o.ending o.ending_unasked o.unasked l h k.falls)

-- A loader that met a fault asked for at least the tokens of its answer.
pub load_asked : (i o n : ParserRemaining) (l : Loading) (f : Fault) → KeepsLoading i o l
    → FaultOf o f n → IsMemoryFault scan_layers f ⊎ (answer_unasked i ≤ n.unasked)
load_asked i o n l f k h = elim h.asked [ inl m ↦ inl m | inr a ↦ let b = unasked_first i o l k h.more in inr (omega (arith, a, b)) ]

-- Where a loader gets an event, something was to come from the start.
pub fed_more : (i o n : ParserRemaining) (l : Loading) (e : Event) → KeepsLoading i o l
    → GivesNext e o n → HasMore i.events i.ending
fed_more i o n l e k h = load_more i o l k (rw h.events tt)

-- A loader that met an event asked for at least the tokens of its answer.
pub fed_asked : (i o n n' : ParserRemaining) (l : Loading) (e : Event) (f : Fault)
    → KeepsLoading i o l → GivesNext e o n → n'.unasked ≡ n.unasked
    → IsMemoryFault scan_layers f ⊎ (answer_unasked i ≤ n'.unasked)
fed_asked i o n n' l e f k h u =
    let a = unasked_first i o l k (rw h.events tt) in
    let b : next_unasked o.events o.ending_unasked ≡ n.unasked = rw h.events refl in
    inr (omega (arith, a, b, u))
