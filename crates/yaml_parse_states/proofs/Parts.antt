-- What the ways through a state's function come to.
use Rattle.std.proofs.Common.{◌≡◌, inl, inr, ℕ, Bool, true, false, if◌then◌else◌, List, [], ◌∷◌, ◌++◌, reverse, Option, Some, None, refl, sym, ap, subst, ◌∙◌}
use Rattle.yaml_parse_model.specs.declared.yaml_mark_t.{yaml_mark_t}
use Rattle.yaml_parse_model.specs.scan_types.Tokens.{Token}
use Rattle.yaml_parse_model.specs.scan_types.Faults.{Fault, IsMemoryFault, scan_layers}
use Rattle.yaml_parse_model.specs.Source.{front_of, rest_of, MayAnswer}
use Rattle.yaml_parse_model.specs.Events.{Event, EventBody}
use Rattle.yaml_parse_grammar.specs.declared.name.Choice.TheVariants.{Refuse, Take, Leave}
use Rattle.yaml_parse_grammar.specs.declared.name.Wants.{Wants}
use Rattle.yaml_parse_grammar.specs.declared.name.Site.{Site}
use Rattle.yaml_parse_grammar.specs.declared.problem.ParseProblem.{ParseProblem}
use Rattle.yaml_parse_grammar.specs.Problems.{parser_fault}
use Rattle.yaml_parse_grammar.specs.States as grammar
use Rattle.yaml_parse_grammar.specs.Machine.{choice_at, taken_at, left_at, taken, follows, no_node, starts_node, wants_of, context_of}
use Rattle.yaml_parse_grammar.specs.Trees.{mark_at}
use Rattle.yaml_parse_grammar.specs.Resolve.{gave, settle, placed}
use Rattle.yaml_parse_grammar.specs.Resolve as resolve
use Rattle.yaml_scan_model.specs.declared.kind.Kind.{Kind}
use Rattle.yaml_scan_model.specs.Kinds.{is_fault, type_by, token_by}
use Rattle.yaml_scan_model.specs.Shows.{IsNext, Shows, ShowsToken, ShowsFault, left_behind}
use Rattle.yaml_scan_model.specs.declared.tokens.Tokens.{Ghosts}
use Rattle.yaml_parse_states.specs.declared.parser.Parser.{Parser}
use Rattle.yaml_parse_states.specs.declared.parser.State.{State}
use Rattle.yaml_parse_states.specs.declared.parser.Turn.{Turn}
use Rattle.yaml_parse_states.specs.declared.parser.Turn.TheVariants as turn
use Rattle.yaml_parse_states.specs.Coming.{Coming, ahead, stopped, read, read_node}
use Rattle.yaml_parse_states.specs.Views.{below, coming_in, coming_with, blank_event, directives_of, event_in, opener, stack}
use Rattle.yaml_parse_states.specs.Turned.{Turned, AwaitsNode, Gives, IsRefused, LooksFor, RefusesNext, context_at}
use Rattle.yaml_parse_states.proofs.Reading.{read_fails}
use Rattle.yaml_parse_states.proofs.Fronts.{silent, leaves, refuses, look_awaits, optional_awaits, shown_same, shows_token, shows_fault}
use Rattle.yaml_parse_states.proofs.Ways.{states_in, gives_rest}

-- ---- a turn

-- what a part answered, and what it left, are those
pub turned_by : {T P : Type 0} (g : Ghosts T P) (was : Coming) (r s : Turn) (new mid : Parser T P)
    → r ≡ s → new ≡ mid → Turned g was s mid → Turned g was r new
turned_by g was r s new mid e d h = subst (λ z. Turned g was z new) (sym e) (subst (Turned g was s) (sym d) h)

-- an event was given, which was the next one
pub gave_next : {T P : Type 0} (g : Ghosts T P) (was : Coming) (r : Turn) (next : State) (e : Event)
    (mid new : Parser T P) (n : ℕ) → r ≡ turn.Given → Gives g next e mid new
    → g.unasked mid.tokens ≡ n
    → was ≡ ahead e n (coming_with g (states_in g next mid) mid)
    → Turned g was r new
gave_next g was r next e mid new n is h u w =
    subst (λ z. Turned g was z new) (sym is) (record {
      unasked = n;
      left = subst (λ (p : Parser _ _). g.unasked p.tokens ≡ n) (sym h.same) u;
      next = w ∙ ap (λ e. ahead e n (coming_with g (states_in g next mid) mid)) (sym h.event) ∙ ap (ahead (event_in g new) n) (sym (gives_rest g next e mid new h));
    })

-- ---- an indicator, after which a node may be

-- the state takes that token for nothing, and the place of a node is next
pub record IsIndicator (x : grammar.State) (k : Kind) (place : Site) (above : List grammar.State)
    : Type 0 where
  pub takes : choice_at x (type_by k) ≡ Take
  pub gives : (t : Token) → taken_at x (token_by k t) ≡ taken None (grammar.optional place t.end_mark ∷ above)

-- a token was looked at and taken, and the next one looked at
pub record Passed {T P : Type 0} (g : Ghosts T P) (k l : Kind) (t0 t1 t2 : T) : Type 0 where
  pub first : ShowsToken k (g.to_come t0) (g.fault_to_come t0) (g.to_come t1) (g.fault_to_come t1)
  pub second : Shows l (rest_of (g.to_come t1)) (g.fault_to_come t1) (g.to_come t2) (g.fault_to_come t2)
  pub unasked : g.unasked t2 ≡ left_behind (g.to_come t2)
  pub places : g.mark_of t2 ≡ g.mark_of t0

-- after an indicator the place of a node is next
indicated : {T P : Type 0} (g : Ghosts T P) (k l : Kind) (t0 t1 t2 : T) (x : grammar.State)
    (place : Site) (above s : List grammar.State) (ds : resolve.Directives)
    → Passed g k l t0 t1 t2 → IsIndicator x k place above
    → read (g.to_come t0) (g.fault_to_come t0) (x ∷ s) ds
    ≡ read (rest_of (g.to_come t1)) (g.fault_to_come t1)
    (grammar.optional place (front_of (g.to_come t1)).end_mark ∷ (above ++ s)) ds
indicated g k l t0 t1 t2 x place above s ds p i =
    shown_same k (g.to_come t0) (g.to_come t1) (g.fault_to_come t0) (g.fault_to_come t1) (x ∷ s) ds p.first
    ∙ silent k x (grammar.optional place (front_of (g.to_come t1)).end_mark ∷ above) s (g.to_come t1) (g.fault_to_come t1) ds p.first.next i.takes (i.gives (front_of (g.to_come t1)))

-- the parser with those tokens
abbrev pub with_tokens : {T P : Type 0} → Parser T P → T → Parser T P
with_tokens p t = record p { tokens = t }

-- the states after it, where places mean the same
moved_states : {T P : Type 0} (g : Ghosts T P) (next : State) (old : Parser T P) (t : T)
    (s : List grammar.State) → g.mark_of t ≡ g.mark_of old.tokens → states_in g next old ≡ s
    → states_in g next (with_tokens old t) ≡ s
moved_states g next old t s e h = ap (λ at. stack at next (reverse old.levels.items)) e ∙ h

-- where the node is left out
pub left_out : {T P : Type 0} (g : Ghosts T P) (k l : Kind) (t1 t2 : T) (x : grammar.State)
    (place : Site) (above s : List grammar.State) (next : State) (r : Turn) (e : Event)
    (old new : Parser T P) → Passed g k l old.tokens t1 t2
    → IsIndicator x k place above → is_fault l ≡ false → follows place (type_by l) ≡ true
    → states_in g next old ≡ above ++ s
    → e ≡ blank_event (mark_at place (front_of (g.to_come t1)).end_mark (front_of (g.to_come t2)).start_mark)
    → r ≡ turn.Given → Gives g next e (with_tokens old t2) new
    → Turned g (coming_with g (x ∷ s) old) r new
left_out g k l t1 t2 x place above s next r e old new p i b f states blank_ is given =
    let ds : resolve.Directives = directives_of old.directives in
    let m : yaml_mark_t = (front_of (g.to_come t1)).end_mark in
    let n : ℕ = left_behind (g.to_come t2) in
    let second : ShowsToken l (rest_of (g.to_come t1)) (g.fault_to_come t1) (g.to_come t2) (g.fault_to_come t2) = shows_token l (rest_of (g.to_come t1)) (g.to_come t2) (g.fault_to_come t1) (g.fault_to_come t2) b p.second in
    gave_next g (coming_with g (x ∷ s) old) r next e (with_tokens old t2) new n is given p.unasked
    (indicated g k l old.tokens t1 t2 x place above s ds p i
    ∙ shown_same l (rest_of (g.to_come t1)) (g.to_come t2) (g.fault_to_come t1) (g.fault_to_come t2) (grammar.optional place m ∷ (above ++ s)) ds second
    ∙ leaves l (grammar.optional place m) (blank_event m).body (above ++ s) (g.to_come t2) (g.fault_to_come t2) ds ds second.next
    (ap (λ z. if z then Leave else if starts_node (wants_of place) (type_by l) then Take else Refuse (no_node (wants_of place)) None) f) refl
    ∙ ap (λ e. ahead e n (read (g.to_come t2) (g.fault_to_come t2) (above ++ s) ds)) (sym blank_)
    ∙ ap (λ z. ahead e n (read (g.to_come t2) (g.fault_to_come t2) z ds)) (sym (moved_states g next old t2 (above ++ s) p.places states)))

-- where the node has to come
pub awaited : {T P : Type 0} (g : Ghosts T P) (k l : Kind) (t1 t2 : T) (x : grammar.State)
    (place : Site) (above s : List grammar.State) (next : State)
    (old : Parser T P) → Passed g k l old.tokens t1 t2
    → IsIndicator x k place above
    → (is_fault l ≡ false → follows place (type_by l) ≡ false)
    → states_in g next old ≡ above ++ s
    → AwaitsNode g (wants_of place) (coming_with g (x ∷ s) old) (record old { tokens = t2; state = next })
awaited g k l t1 t2 x place above s next old p i f states =
    let ds : resolve.Directives = directives_of old.directives in
    let m : yaml_mark_t = (front_of (g.to_come t1)).end_mark in
    let first = indicated g k l old.tokens t1 t2 x place above s ds p i in
    let last = ap (λ z. read_node (wants_of place) (g.to_come t2) (g.fault_to_come t2) z ds) (sym (moved_states g next old t2 (above ++ s) p.places states)) in
    let either = look_awaits l (grammar.optional place m) (wants_of place) (above ++ s) (above ++ s) (rest_of (g.to_come t1)) (g.to_come t2) (g.fault_to_come t1) (g.fault_to_come t2) ds p.second
    (λ e. optional_awaits l place m (above ++ s) (g.to_come t2) (g.fault_to_come t2) ds (shows_token l (rest_of (g.to_come t1)) (g.to_come t2) (g.fault_to_come t1) (g.fault_to_come t2) e p.second).next (f e)) in
    elim either [ inl e ↦ inl (first ∙ e ∙ last) | inr e ↦ inr e ]

-- a node has to come at the token that is next
pub awaited_here : {T P : Type 0} (g : Ghosts T P) (k : Kind) (t1 : T) (x : grammar.State)
    (w : Wants) (s below : List grammar.State) (next : State) (old : Parser T P)
    → Shows k (g.to_come old.tokens) (g.fault_to_come old.tokens) (g.to_come t1) (g.fault_to_come t1)
    → g.mark_of t1 ≡ g.mark_of old.tokens
    → (IsNext k (g.to_come t1) → read (g.to_come t1) (g.fault_to_come t1) (x ∷ s) (directives_of old.directives)
    ≡ read_node w (g.to_come t1) (g.fault_to_come t1) below (directives_of old.directives))
    → states_in g next old ≡ below
    → AwaitsNode g w (coming_with g (x ∷ s) old) (record old { tokens = t1; state = next })
awaited_here g k t1 x w s below next old shows places same states =
    let ds : resolve.Directives = directives_of old.directives in
    let last = ap (λ z. read_node w (g.to_come t1) (g.fault_to_come t1) z ds) (sym (moved_states g next old t1 below places states)) in
    let either = look_awaits k x w s below (g.to_come old.tokens) (g.to_come t1) (g.fault_to_come old.tokens) (g.fault_to_come t1) ds shows
    (λ e. same (shows_token k (g.to_come old.tokens) (g.to_come t1) (g.fault_to_come old.tokens) (g.fault_to_come t1) e shows).next) in
    elim either [ inl e ↦ inl (e ∙ last) | inr e ↦ inr e ]

-- ---- a token that is taken for nothing

-- it was looked at, and taken
pub record Skipped {T P : Type 0} (g : Ghosts T P) (k : Kind) (t0 t1 t2 : T) : Type 0 where
  pub shows : ShowsToken k (g.to_come t0) (g.fault_to_come t0) (g.to_come t1) (g.fault_to_come t1)
  pub rest : g.to_come t2 ≡ rest_of (g.to_come t1)
  pub fault : g.fault_to_come t2 ≡ g.fault_to_come t1
  pub places : g.mark_of t2 ≡ g.mark_of t0

-- the states above those below go on after it
pub went_on : {T P : Type 0} (g : Ghosts T P) (k : Kind) (t0 t1 t2 : T) (x : grammar.State)
    (above s : List grammar.State) (ds : resolve.Directives) → Skipped g k t0 t1 t2
    → choice_at x (type_by k) ≡ Take
    → taken_at x (token_by k (front_of (g.to_come t1))) ≡ taken None above
    → read (g.to_come t0) (g.fault_to_come t0) (x ∷ s) ds
    ≡ read (g.to_come t2) (g.fault_to_come t2) (above ++ s) ds
went_on g k t0 t1 t2 x above s ds p c t =
    shown_same k (g.to_come t0) (g.to_come t1) (g.fault_to_come t0) (g.fault_to_come t1) (x ∷ s) ds p.shows
    ∙ silent k x above s (g.to_come t1) (g.fault_to_come t1) ds p.shows.next c t
    ∙ ap (λ ts. read ts (g.fault_to_come t1) (above ++ s) ds) (sym p.rest)
    ∙ ap (λ f. read (g.to_come t2) f (above ++ s) ds) (sym p.fault)

-- what that state's function does is what this one's does
pub stepped : {T P : Type 0} (g : Ghosts T P) (k : Kind) (t1 t2 : T) (x : grammar.State)
    (above s : List grammar.State) (next : State) (r : Turn) (old new : Parser T P)
    → Skipped g k old.tokens t1 t2 → choice_at x (type_by k) ≡ Take
    → taken_at x (token_by k (front_of (g.to_come t1))) ≡ taken None above
    → states_in g next old ≡ above ++ s
    → Turned g (coming_in g next (with_tokens old t2)) r new
    → Turned g (coming_with g (x ∷ s) old) r new
stepped g k t1 t2 x above s next r old new p c t states h =
    subst (λ (w : Coming). Turned g w r new) (sym (went_on g k old.tokens t1 t2 x above s (directives_of old.directives) p c t
    ∙ ap (λ z. read (g.to_come t2) (g.fault_to_come t2) z (directives_of old.directives)) (sym (moved_states g next old t2 (above ++ s) p.places states)))) h

-- ---- refusals

pub some_same : (e f : Fault) → ◌≡◌ {A = Option Fault} (Some e) (Some f) → e ≡ f
some_same e f h = cc

-- no token is next where a fault was reported
pub no_answer : (ts : List Token) (f : Option Fault) (e : Fault) → ts ≡ [] → f ≡ Some e
    → MayAnswer ts f → ⊥
no_answer [] None e h k m = cc
no_answer [] (Some f) e h k m = cc
no_answer (t ∷ ts) f e h k m = cc

-- where it was reported that memory ran out
pub memory_told : {T P : Type 0} (g : Ghosts T P) (was : Coming) (e : Fault) (new : Parser T P)
    → IsMemoryFault scan_layers e → IsRefused g (stopped e 0) new → IsRefused g was new
memory_told g was e new m h = record {
  fault = h.fault;
  told = h.told;
  over = h.over;
  unasked = h.unasked;
  left = h.left;
  reason = elim h.reason [
    | inl l ↦ inl l
    | inr q ↦ inl (subst (IsMemoryFault scan_layers) (some_same e h.fault (ap (λ (c : Coming). c.ending) q)) m)
  ];
}

-- A fault is next, and is reported.
pub refused_fault : {T P : Type 0} (g : Ghosts T P) (was : Coming) (ts : List Token)
    (f : Option Fault) (p : ParseProblem) (mid new : Parser T P)
    → ShowsFault ts f (g.to_come mid.tokens) (g.fault_to_come mid.tokens)
    → ((e : Fault) → ts ≡ [] → f ≡ Some e → was ≡ stopped e 0)
    → RefusesNext g p mid new → IsRefused g was new
refused_fault g was ts f p mid new h same next =
    let told : IsRefused g (stopped h.told 0) new = next (stopped h.told 0)
    (λ e none some. ap (λ (z : Fault). stopped z 0) (some_same h.told e (sym h.ends ∙ some)))
    (λ k may is. absurd (no_answer (g.to_come mid.tokens) (g.fault_to_come mid.tokens) h.told h.none h.ends may)) in
    elim h.reason [
      | inl m ↦ memory_told g was h.told new m told
      | inr q ↦ subst (λ (w : Coming). IsRefused g w new) (sym (same h.told q.0 q.1)) told
    ]

-- after the tokens an open state has their fault to come
fails_with : (ts : List Token) (f : Option Fault) (x : grammar.State) (s : List grammar.State)
    (ds : resolve.Directives) (e : Fault) → ts ≡ [] → f ≡ Some e
    → read ts f (x ∷ s) ds ≡ stopped e 0
fails_with ts f x s ds e h k = ap (λ ts. read ts f (x ∷ s) ds) h ∙ ap (λ z. read [] z (x ∷ s) ds) k ∙ read_fails x s e ds

pub not_empty : (ts : List Token) (t : Token) (us : List Token) → ts ≡ t ∷ us → ts ≡ [] → ⊥
not_empty ts t us h k = cc

-- The state refuses the token that is next, or a fault is next.
pub refused_here : {T P : Type 0} (g : Ghosts T P) (k : Kind) (t1 : T) (x : grammar.State)
    (s : List grammar.State) (p : ParseProblem) (o : Option yaml_mark_t) (r : Turn)
    (old new : Parser T P)
    → Shows k (g.to_come old.tokens) (g.fault_to_come old.tokens) (g.to_come t1) (g.fault_to_come t1)
    → (is_fault k ≡ false → choice_at x (type_by k) ≡ Refuse p o)
    → ((m : yaml_mark_t) → context_of o m ≡ context_at p (opener (g.mark_of old.tokens) (reverse old.levels.items)) m)
    → g.mark_of t1 ≡ g.mark_of old.tokens
    → r ≡ turn.Refused → RefusesNext g p (with_tokens old t1) new
    → Turned g (coming_with g (x ∷ s) old) r new
refused_here g k t1 x s p o r old new shows choice same_context places is next =
    subst (λ z. Turned g (coming_with g (x ∷ s) old) z new) (sym is) (inl (known (is_fault k) refl))
  where
    known : (b : Bool) → is_fault k ≡ b → IsRefused g (coming_with g (x ∷ s) old) new
    known true e = refused_fault g (coming_with g (x ∷ s) old) (g.to_come old.tokens) (g.fault_to_come old.tokens) p (with_tokens old t1) new
        (shows_fault k (g.to_come old.tokens) (g.to_come t1) (g.fault_to_come old.tokens) (g.fault_to_come t1) e shows)
        (λ z none some. fails_with (g.to_come old.tokens) (g.fault_to_come old.tokens) x s (directives_of old.directives) z none some) next
    known false e =
        let token : ShowsToken k (g.to_come old.tokens) (g.fault_to_come old.tokens) (g.to_come t1) (g.fault_to_come t1) = shows_token k (g.to_come old.tokens) (g.to_come t1) (g.fault_to_come old.tokens) (g.fault_to_come t1) e shows in
        next (coming_with g (x ∷ s) old)
        (λ f none some. absurd (not_empty (g.to_come t1) (front_of (g.to_come old.tokens)) (rest_of (g.to_come old.tokens)) token.front none))
        (λ l may l_is. shown_same k (g.to_come old.tokens) (g.to_come t1) (g.fault_to_come old.tokens) (g.fault_to_come t1) (x ∷ s) (directives_of old.directives) token
        ∙ refuses k x p o s (g.to_come t1) (g.fault_to_come t1) (directives_of old.directives) token.next (choice e)
        ∙ ap (λ (m : yaml_mark_t). stopped (parser_fault p (front_of (g.to_come t1)).start_mark m) (left_behind (g.to_come t1))) (same_context (front_of (g.to_come t1)).start_mark
        ∙ ap (λ at. context_at p (opener at (reverse old.levels.items)) (front_of (g.to_come t1)).start_mark) (sym places)))

-- A fault is next.
pub failed_here : {T P : Type 0} (g : Ghosts T P) (k : Kind) (t1 : T) (x : grammar.State)
    (s : List grammar.State) (p : ParseProblem) (r : Turn) (old new : Parser T P)
    → Shows k (g.to_come old.tokens) (g.fault_to_come old.tokens) (g.to_come t1) (g.fault_to_come t1)
    → is_fault k ≡ true → r ≡ turn.Refused → RefusesNext g p (with_tokens old t1) new
    → Turned g (coming_with g (x ∷ s) old) r new
failed_here g k t1 x s p r old new shows e is next =
    subst (λ z. Turned g (coming_with g (x ∷ s) old) z new) (sym is) (inl (
    refused_fault g (coming_with g (x ∷ s) old) (g.to_come old.tokens) (g.fault_to_come old.tokens) p (with_tokens old t1) new
    (shows_fault k (g.to_come old.tokens) (g.to_come t1) (g.fault_to_come old.tokens) (g.fault_to_come t1) e shows)
    (λ z none some. fails_with (g.to_come old.tokens) (g.fault_to_come old.tokens) x s (directives_of old.directives) z none some) next))

-- ---- a state that is left before the token that is next

pub left_here : {T P : Type 0} (g : Ghosts T P) (k : Kind) (t1 : T) (x : grammar.State)
    (s : List grammar.State) (b : EventBody) (next : State) (r : Turn) (e : Event)
    (old new : Parser T P)
    → Shows k (g.to_come old.tokens) (g.fault_to_come old.tokens) (g.to_come t1) (g.fault_to_come t1)
    → g.unasked t1 ≡ left_behind (g.to_come t1) → g.mark_of t1 ≡ g.mark_of old.tokens
    → is_fault k ≡ false → choice_at x (type_by k) ≡ Leave
    → settle (left_at x (front_of (g.to_come t1)).start_mark) (directives_of old.directives) ≡ gave b (directives_of old.directives)
    → e ≡ placed b (left_at x (front_of (g.to_come t1)).start_mark)
    → states_in g next old ≡ s
    → r ≡ turn.Given → Gives g next e (with_tokens old t1) new
    → Turned g (coming_with g (x ∷ s) old) r new
left_here g k t1 x s b next r e old new shows unasked places f choice settles placed_ states is given =
    let ds : resolve.Directives = directives_of old.directives in
    let n : ℕ = left_behind (g.to_come t1) in
    let token : ShowsToken k (g.to_come old.tokens) (g.fault_to_come old.tokens) (g.to_come t1) (g.fault_to_come t1) = shows_token k (g.to_come old.tokens) (g.to_come t1) (g.fault_to_come old.tokens) (g.fault_to_come t1) f shows in
    gave_next g (coming_with g (x ∷ s) old) r next e (with_tokens old t1) new n is given unasked
    (shown_same k (g.to_come old.tokens) (g.to_come t1) (g.fault_to_come old.tokens) (g.fault_to_come t1) (x ∷ s) ds token
    ∙ leaves k x b s (g.to_come t1) (g.fault_to_come t1) ds ds token.next choice settles
    ∙ ap (λ e. ahead e n (read (g.to_come t1) (g.fault_to_come t1) s ds)) (sym placed_)
    ∙ ap (λ z. ahead e n (read (g.to_come t1) (g.fault_to_come t1) z ds)) (sym (moved_states g next old t1 s places states)))

-- ---- likewise where only the question was whether a fault is next

pub failed_by : {T P : Type 0} (g : Ghosts T P) (x : grammar.State) (s : List grammar.State)
    (p : ParseProblem) (r : Turn) (old mid new : Parser T P) → LooksFor g true old mid
    → r ≡ turn.Refused → RefusesNext g p mid new
    → Turned g (coming_with g (x ∷ s) old) r new
failed_by g x s p r old mid new l is next =
    failed_here g l.0 mid.tokens x s p r old new l.2.shows (sym l.1) is (subst (λ z. RefusesNext g p z new) l.2.same next)

pub left_by : {T P : Type 0} (g : Ghosts T P) (x : grammar.State) (s : List grammar.State)
    (b : EventBody) (next : State) (r : Turn) (e : Event) (old mid new : Parser T P)
    → LooksFor g false old mid → ((k : Kind) → choice_at x (type_by k) ≡ Leave)
    → settle (left_at x (front_of (g.to_come mid.tokens)).start_mark) (directives_of old.directives) ≡ gave b (directives_of old.directives)
    → e ≡ placed b (left_at x (front_of (g.to_come mid.tokens)).start_mark)
    → states_in g next old ≡ s
    → r ≡ turn.Given → Gives g next e mid new
    → Turned g (coming_with g (x ∷ s) old) r new
left_by g x s b next r e old mid new l choice settles placed_ states is given =
    left_here g l.0 mid.tokens x s b next r e old new l.2.shows l.2.unasked l.2.places (sym l.1) (choice l.0) settles placed_ states is (subst (λ z. Gives g next e z new) l.2.same given)
