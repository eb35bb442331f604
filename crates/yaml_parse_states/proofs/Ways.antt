-- What the parts of a state's function come to.
use Rattle.std.proofs.Common.{◌≡◌, inr, Bool, false, List, [], ◌∷◌, ◌++◌, reverse, length, Some, sym, ap, subst, ◌∙◌}
use Rattle.yaml_parse_model.specs.declared.yaml_mark_t.{yaml_mark_t}
use Rattle.yaml_parse_model.specs.scan_types.Tokens.{Token}
use Rattle.yaml_parse_model.specs.scan_types.Faults.{Fault}
use Rattle.yaml_parse_model.specs.Source.{front_of, rest_of}
use Rattle.yaml_parse_model.specs.Events.{Event, EventBody}
use Rattle.yaml_parse_grammar.specs.declared.name.Choice.TheVariants.{Take}
use Rattle.yaml_parse_grammar.specs.declared.problem.ParseProblem.{ParseProblem}
use Rattle.yaml_parse_grammar.specs.Problems.{parser_fault}
use Rattle.yaml_parse_grammar.specs.Items.{RawEvent}
use Rattle.yaml_parse_grammar.specs.States as grammar
use Rattle.yaml_parse_grammar.specs.Machine.{choice_at, taken_at, taken}
use Rattle.yaml_parse_grammar.specs.Trees.{event_at}
use Rattle.yaml_parse_grammar.specs.Resolve.{gave, settle, placed, behind_event}
use Rattle.yaml_parse_grammar.specs.Resolve as resolve
use Rattle.yaml_scan_model.specs.declared.kind.Kind.{Kind}
use Rattle.yaml_scan_model.specs.Kinds.{IsOf, type_by, token_by}
use Rattle.yaml_scan_model.specs.Shows.{IsNext, ShowsToken, left_behind}
use Rattle.yaml_scan_model.specs.declared.tokens.Tokens.{Ghosts}
use Rattle.yaml_parse_states.specs.declared.event.EventKind.{EventKind}
use Rattle.yaml_parse_states.specs.declared.parser.Level.{Level}
use Rattle.yaml_parse_states.specs.declared.parser.Parser.{Parser}
use Rattle.yaml_parse_states.specs.declared.parser.State.{State}
use Rattle.yaml_parse_states.specs.declared.parser.Turn.{Turn}
use Rattle.yaml_parse_states.specs.declared.parser.Turn.TheVariants as turn
use Rattle.yaml_parse_states.specs.Coming.{Coming, ahead, stopped, read}
use Rattle.yaml_parse_states.specs.Views.{below, below_of, coming_of, coming_with, directives_of, event_in, opener, stack}
use Rattle.yaml_parse_states.specs.Turned.{Turned, Gives, Takes, Ends, LooksFor, Opens, Refuses, RefusesNext, context_at, fault_at}
use Rattle.yaml_parse_states.proofs.Fronts.{gives, shows_token}
use Rattle.yaml_parse_states.proofs.Stacks.{pushed, last_start, last_next}

-- ---- what is to come after a part

-- with those states, after the token that is next
abbrev pub coming_behind : {T P : Type 0} → Ghosts T P → List grammar.State → Parser T P → Coming
coming_behind g s p = read (rest_of (g.to_come p.tokens)) (g.fault_to_come p.tokens) s
    (directives_of p.directives)

-- the states of that state
abbrev pub states_in : {T P : Type 0} → Ghosts T P → State → Parser T P → List grammar.State
states_in g x p = stack (g.mark_of p.tokens) x (reverse p.levels.items)

pub taken_rest : {T P : Type 0} (g : Ghosts T P) (k : EventKind) (next : State)
    (old new : Parser T P) → Takes g k next old new
    → coming_of g new ≡ coming_behind g (states_in g next old) old
taken_rest g k next old new h =
    ap (λ p. read (g.to_come new.tokens) (g.fault_to_come new.tokens) (stack (g.mark_of new.tokens) p.state (reverse p.levels.items)) (directives_of p.directives)) h.same
    ∙ ap (λ ts. read ts (g.fault_to_come new.tokens) (stack (g.mark_of new.tokens) next (reverse old.levels.items)) (directives_of old.directives)) h.token.rest
    ∙ ap (λ f. read (rest_of (g.to_come old.tokens)) f (stack (g.mark_of new.tokens) next (reverse old.levels.items)) (directives_of old.directives)) h.token.fault
    ∙ ap (λ at. read (rest_of (g.to_come old.tokens)) (g.fault_to_come old.tokens) (stack at next (reverse old.levels.items)) (directives_of old.directives)) h.token.places

pub gives_rest : {T P : Type 0} (g : Ghosts T P) (next : State) (e : Event)
    (old new : Parser T P) → Gives g next e old new
    → coming_of g new ≡ coming_with g (states_in g next old) old
gives_rest g next e old new h = ap (coming_of g) h.same

-- ---- events

-- The token that is next is taken for an event by a state that does so, whatever the directives were.
pub took_by : {T P : Type 0} (g : Ghosts T P) (token : Kind) (k : EventKind) (next : State)
    (r : Turn) (old new : Parser T P) (x : grammar.State) (b : EventBody) (i : RawEvent)
    (above s : List grammar.State) (ds : resolve.Directives)
    → IsNext token (g.to_come old.tokens) → r ≡ turn.Given → Takes g k next old new
    → choice_at x (type_by token) ≡ Take
    → taken_at x (token_by token (front_of (g.to_come old.tokens))) ≡ taken (Some i) above
    → settle i ds ≡ gave b (directives_of old.directives)
    → event_in g new ≡ placed b i
    → coming_behind g (above ++ s) old ≡ coming_behind g (states_in g next old) old
    → Turned g (read (g.to_come old.tokens) (g.fault_to_come old.tokens) (x ∷ s) ds) r new
took_by g token k next r old new x b i above s ds is given takes c t e placed same =
    subst (λ z. Turned g (read (g.to_come old.tokens) (g.fault_to_come old.tokens) (x ∷ s) ds) z new) (sym given) (record {
      unasked = length (g.to_come new.tokens);
      left = takes.token.unasked;
      next = gives token x i b above s (g.to_come old.tokens) (g.fault_to_come old.tokens) ds (directives_of old.directives) is c t e
          ∙ ap (λ e. ahead e (left_behind (g.to_come old.tokens)) (coming_behind g (above ++ s) old)) (sym placed)
          ∙ ap (λ ts. ahead (event_in g new) (length ts) (coming_behind g (above ++ s) old)) (sym takes.token.rest)
          ∙ ap (ahead (event_in g new) (length (g.to_come new.tokens))) (same ∙ sym (taken_rest g k next old new takes));
    })

-- The token that is next is taken for an event by a state that does so.
pub took : {T P : Type 0} (g : Ghosts T P) (token : Kind) (k : EventKind) (next : State)
    (r : Turn) (old new : Parser T P) (x : grammar.State) (b : EventBody) (i : RawEvent)
    (above s : List grammar.State)
    → IsNext token (g.to_come old.tokens) → r ≡ turn.Given → Takes g k next old new
    → choice_at x (type_by token) ≡ Take
    → taken_at x (token_by token (front_of (g.to_come old.tokens))) ≡ taken (Some i) above
    → settle i (directives_of old.directives) ≡ gave b (directives_of old.directives)
    → event_in g new ≡ placed b i
    → states_in g next old ≡ above ++ s
    → Turned g (coming_with g (x ∷ s) old) r new
took g token k next r old new x b i above s is given takes c t e placed same =
    took_by g token k next r old new x b i above s (directives_of old.directives) is given takes c t e placed (ap (λ z. coming_behind g z old) (sym same))

-- The token that is next ends a collection, of which it is the last.
pub ended : {T P : Type 0} (g : Ghosts T P) (token : Kind) (k : EventKind) (next : State)
    (r : Turn) (old left new : Parser T P)
    → IsNext token (g.to_come old.tokens)
    → left ≡ record old { levels = left.levels }
    → ((at : P → yaml_mark_t) → stack at next (reverse left.levels.items) ≡ below at (reverse old.levels.items))
    → r ≡ turn.Given → Takes g k next left new → Ends g token k old r new
ended g token k next r old left new is same states given takes x b c t e d =
    let mid : Parser _ _ = record old { levels = left.levels } in
    let takes' : Takes g k next mid new = subst (λ z. Takes g k next z new) same takes in
    let t0 : Token = front_of (g.to_come old.tokens) in
    took g token k next r mid new x b (event_at b t0.start_mark t0.end_mark) [] (below_of g old) is given takes' c t
    (ap (gave b) d)
    (takes'.event ∙ ap (λ (y : EventBody). record { body = y; start_mark = t0.start_mark; end_mark = t0.end_mark }) e)
    (states (g.mark_of old.tokens))

-- ---- an open collection

pub opened : {T P : Type 0} (g : Ghosts T P) (old new : Parser T P) (l : Level P)
    → new ≡ record old { levels = new.levels } → new.levels.items ≡ old.levels.items ++ l ∷ []
    → g.mark_of old.tokens l.start ≡ (front_of (g.to_come old.tokens)).start_mark
    → l.next ≡ old.state → Opens g old new
opened g old new l same items start next = record {
  start = ap (λ p. opener (g.mark_of p.tokens) (reverse new.levels.items)) same ∙ last_start (g.mark_of old.tokens) old.levels.items new.levels.items l items ∙ start;
  next = last_next old.levels.items new.levels.items l items ∙ next;
  below = ap (λ p. below (g.mark_of p.tokens) (reverse new.levels.items)) same ∙ pushed (g.mark_of old.tokens) old.levels.items new.levels.items l items ∙ ap (λ x. stack (g.mark_of old.tokens) x (reverse old.levels.items)) next;
}

-- ---- refusals

pub refused_next : {T P : Type 0} (g : Ghosts T P) (p : ParseProblem) (b : Bool) (at context : P)
    (old mid new : Parser T P) → LooksFor g b old mid → b ≡ false
    → g.mark_of mid.tokens at ≡ (front_of (g.to_come mid.tokens)).start_mark
    → g.mark_of mid.tokens context ≡ context_at p (opener (g.mark_of mid.tokens) (reverse mid.levels.items)) (g.mark_of mid.tokens at)
    → Refuses g (parser_fault p (g.mark_of mid.tokens at) (g.mark_of mid.tokens context)) mid new
    → RefusesNext g p old new
refused_next g p b at context old mid new l e start where_ r was none some =
    let token : ShowsToken l.0 (g.to_come old.tokens) (g.fault_to_come old.tokens) (g.to_come mid.tokens) (g.fault_to_come mid.tokens) = shows_token l.0 _ _ _ _ (sym l.1 ∙ e) l.2.shows in
    let front : front_of (g.to_come mid.tokens) ≡ front_of (g.to_come old.tokens) = ap front_of token.front in
    let first : g.mark_of mid.tokens at ≡ (front_of (g.to_come old.tokens)).start_mark = start ∙ ap (λ (t : Token). t.start_mark) front in
    let begins : opener (g.mark_of mid.tokens) (reverse mid.levels.items) ≡ opener (g.mark_of old.tokens) (reverse old.levels.items) =
    ap (λ p. opener (g.mark_of mid.tokens) (reverse p.levels.items)) l.2.same ∙ ap (λ at. opener at (reverse old.levels.items)) l.2.places in
    let second : g.mark_of mid.tokens context ≡ context_at p (opener (g.mark_of old.tokens) (reverse old.levels.items)) (front_of (g.to_come old.tokens)).start_mark =
    where_ ∙ ap (λ o. context_at p o (g.mark_of mid.tokens at)) begins ∙ ap (context_at p (opener (g.mark_of old.tokens) (reverse old.levels.items))) first in
    let is : r.fault ≡ fault_at g p old = r.is ∙ ap (λ m. parser_fault p m (g.mark_of mid.tokens context)) first ∙ ap (parser_fault p (front_of (g.to_come old.tokens)).start_mark) second in
    record {
      fault = r.fault;
      told = r.told;
      over = r.over;
      unasked = left_behind (g.to_come mid.tokens);
      left = r.unasked ∙ l.2.unasked;
      reason = inr (some l.0 token.may (subst (λ (t : Token). IsOf l.0 t.body) front token.next.is)
          ∙ ap (λ (f : Fault). stopped f (left_behind (g.to_come old.tokens))) (sym is)
          ∙ ap (λ (ts : List Token). stopped r.fault (length (rest_of ts))) (sym token.front));
    }
