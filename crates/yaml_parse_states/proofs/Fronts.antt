-- What is to come, by the kind of the token that is next.
use Rattle.std.proofs.Common.{◌≡◌, ◌⊎◌, inl, inr, Bool, true, false, if◌then◌else◌, List, [], ◌∷◌, ◌++◌, Option, Some, None, refl, sym, ap, ◌∙◌, arith}
use Rattle.yaml_parse_model.specs.declared.yaml_mark_t.{yaml_mark_t}
use Rattle.yaml_parse_model.specs.scan_types.Tokens.{Token, TokenBody, type_of}
use Rattle.yaml_parse_model.specs.scan_types.Faults.{Fault}
use Rattle.yaml_parse_model.specs.Source.{front_of, rest_of}
use Rattle.yaml_parse_model.specs.Events.{EventBody}
use Rattle.yaml_parse_grammar.specs.declared.name.Choice.{Choice}
use Rattle.yaml_parse_grammar.specs.declared.name.Choice.TheVariants.{Refuse, Take, Leave}
use Rattle.yaml_parse_grammar.specs.declared.name.Wants.{Wants}
use Rattle.yaml_parse_grammar.specs.declared.name.Site.{Site}
use Rattle.yaml_parse_grammar.specs.declared.problem.ParseProblem.{ParseProblem}
use Rattle.yaml_parse_grammar.specs.Problems.{parser_fault}
use Rattle.yaml_parse_grammar.specs.Items.{RawEvent}
use Rattle.yaml_parse_grammar.specs.States.{State, Taken}
use Rattle.yaml_parse_grammar.specs.States as state
use Rattle.yaml_parse_grammar.specs.Machine.{Fed, stop, feed, choice_at, taken_at, left_at, context_of, given_by, taken, turn, follows, node_taken, starts_node, no_node, wants_of}
use Rattle.yaml_parse_grammar.specs.Resolve.{Directives, gave, noted, refused, settle, placed}
use Rattle.yaml_parse_grammar.proofs.Complete.{fed_by}
use Rattle.yaml_scan_model.specs.declared.kind.Kind.{Kind}
use Rattle.yaml_scan_model.specs.declared.kind.Kind.TheVariants as kind
use Rattle.yaml_scan_model.specs.Kinds.{IsOf, body_by, token_by, type_by, is_fault}
use Rattle.yaml_scan_model.specs.Shows.{IsNext, Shows, ShowsToken, ShowsFault, left_behind}
use Rattle.yaml_parse_states.specs.Coming.{ahead, stopped, read, read_fed, read_node, node_turn}
use Rattle.yaml_parse_states.specs.Turned.{IsLost}
use Rattle.yaml_parse_states.proofs.Reading.{read_front, read_by, read_fails, fed_silent, fed_gives, fed_notes, fed_refused, fed_stops, fed_leaves, fed_leaves_refused}

-- ---- the token that is next

pub shown_same : (k : Kind) (old new : List Token) (f g : Option Fault) (s : List State)
    (ds : Directives) → ShowsToken k old f new g → read old f s ds ≡ read new g s ds
shown_same k old new f g s ds h =
    sym (read_front old f s ds h.may) ∙ ap (λ (ts : List Token). read ts f s ds) (sym h.front) ∙ ap (λ (z : Option Fault). read new z s ds) (sym h.same)

-- a token is next, where no fault is
pub shows_token : (k : Kind) (old new : List Token) (f g : Option Fault) → is_fault k ≡ false
    → Shows k old f new g → ShowsToken k old f new g
shows_token kind.Failed old new f g e h = cc
shows_token kind.BadTag old new f g e h = cc
shows_token kind.BadPrefix old new f g e h = cc
shows_token k old new f g e h = h

pub shows_fault : (k : Kind) (old new : List Token) (f g : Option Fault) → is_fault k ≡ true
    → Shows k old f new g → ShowsFault old f new g
shows_fault kind.Failed old new f g e h = h
shows_fault kind.BadTag old new f g e h = h
shows_fault kind.BadPrefix old new f g e h = h
shows_fault k old new f g e h = cc

type_is : (k : Kind) (b : TokenBody) → type_of (body_by k b) ≡ type_by k
type_is k b = grind arith

pub token_is : (k : Kind) (t : Token) → IsOf k t.body → t ≡ token_by k t
token_is k t h = ap (λ (b : TokenBody). record { body = b; start_mark = t.start_mark; end_mark = t.end_mark }) h

type_known : (k : Kind) (t : Token) → IsOf k t.body → type_of t.body ≡ type_by k
type_known k t h = ap type_of h ∙ type_is k t.body

-- ---- what the topmost state does at it

fed_at : (c : Choice) (k : Kind) (x : State) (t : Token) (s : List State) → IsOf k t.body
    → choice_at x (type_by k) ≡ c → feed (x ∷ s) t ≡ turn c x t s (feed s t)
fed_at c k x t s h e = fed_by c x t s (ap (choice_at x) (type_known k t h) ∙ e)

taken_by : (k : Kind) (x : State) (t : Token) (y : Taken) → IsOf k t.body
    → taken_at x (token_by k t) ≡ y → taken_at x t ≡ y
taken_by k x t y h e = ap (taken_at x) (token_is k t h) ∙ e

pub silent : (k : Kind) (x : State) (above s : List State) (ts : List Token) (f : Option Fault)
    (ds : Directives) → IsNext k ts → choice_at x (type_by k) ≡ Take
    → taken_at x (token_by k (front_of ts)) ≡ taken None above
    → read ts f (x ∷ s) ds ≡ read (rest_of ts) f (above ++ s) ds
silent k x above s ts f ds n e y =
    ap (λ (z : List Token). read z f (x ∷ s) ds) n.same
    ∙ read_by (given_by (taken None above) s) (front_of ts) (rest_of ts) f (x ∷ s) ds (fed_at Take k x (front_of ts) s n.is e ∙ ap (λ (z : Taken). given_by z s) (taken_by k x (front_of ts) (taken None above) n.is y))
    ∙ fed_silent (above ++ s) (rest_of ts) f ds

pub gives : (k : Kind) (x : State) (i : RawEvent) (b : EventBody) (above s : List State)
    (ts : List Token) (f : Option Fault) (ds ds' : Directives) → IsNext k ts
    → choice_at x (type_by k) ≡ Take
    → taken_at x (token_by k (front_of ts)) ≡ taken (Some i) above → settle i ds ≡ gave b ds'
    → read ts f (x ∷ s) ds
    ≡ ahead (placed b i) (left_behind ts) (read (rest_of ts) f (above ++ s) ds')
gives k x i b above s ts f ds ds' n e y h =
    ap (λ (z : List Token). read z f (x ∷ s) ds) n.same
    ∙ read_by (given_by (taken (Some i) above) s) (front_of ts) (rest_of ts) f (x ∷ s) ds (fed_at Take k x (front_of ts) s n.is e ∙ ap (λ (z : Taken). given_by z s) (taken_by k x (front_of ts) (taken (Some i) above) n.is y))
    ∙ fed_gives i (above ++ s) (rest_of ts) f ds ds' b h

pub leaves : (k : Kind) (x : State) (b : EventBody) (s : List State)
    (ts : List Token) (f : Option Fault) (ds ds' : Directives) → IsNext k ts
    → choice_at x (type_by k) ≡ Leave
    → settle (left_at x (front_of ts).start_mark) ds ≡ gave b ds'
    → read ts f (x ∷ s) ds
    ≡ ahead (placed b (left_at x (front_of ts).start_mark)) (left_behind ts) (read ts f s ds')
leaves k x b s ts f ds ds' n e h =
    ap (λ (z : List Token). read z f (x ∷ s) ds) n.same
    ∙ read_by _ (front_of ts) (rest_of ts) f (x ∷ s) ds (fed_at Leave k x (front_of ts) s n.is e)
    ∙ fed_leaves (left_at x (front_of ts).start_mark) (feed s (front_of ts)) (rest_of ts) f ds ds' b h
    ∙ ap (ahead (placed b (left_at x (front_of ts).start_mark)) (left_behind ts)) (sym (ap (λ (z : List Token). read z f s ds') n.same ∙ read_by (feed s (front_of ts)) (front_of ts) (rest_of ts) f s ds' refl))

pub refuses : (k : Kind) (x : State) (p : ParseProblem) (o : Option yaml_mark_t) (s : List State)
    (ts : List Token) (f : Option Fault) (ds : Directives) → IsNext k ts
    → choice_at x (type_by k) ≡ Refuse p o
    → read ts f (x ∷ s) ds
    ≡ stopped (parser_fault p (front_of ts).start_mark (context_of o (front_of ts).start_mark))
    (left_behind ts)
refuses k x p o s ts f ds n e =
    ap (λ (z : List Token). read z f (x ∷ s) ds) n.same
    ∙ read_by _ (front_of ts) (rest_of ts) f (x ∷ s) ds (fed_at (Refuse p o) k x (front_of ts) s n.is e)
    ∙ fed_stops _ (rest_of ts) f ds

-- a directive's token, which is noted
pub notes : (k : Kind) (x : State) (i : RawEvent) (above s : List State)
    (ts : List Token) (f : Option Fault) (ds ds' : Directives) → IsNext k ts
    → choice_at x (type_by k) ≡ Take
    → taken_at x (token_by k (front_of ts)) ≡ taken (Some i) above → settle i ds ≡ noted ds'
    → read ts f (x ∷ s) ds ≡ read (rest_of ts) f (above ++ s) ds'
notes k x i above s ts f ds ds' n e y h =
    ap (λ (z : List Token). read z f (x ∷ s) ds) n.same
    ∙ read_by (given_by (taken (Some i) above) s) (front_of ts) (rest_of ts) f (x ∷ s) ds (fed_at Take k x (front_of ts) s n.is e ∙ ap (λ (z : Taken). given_by z s) (taken_by k x (front_of ts) (taken (Some i) above) n.is y))
    ∙ fed_notes i (above ++ s) (rest_of ts) f ds ds' h

-- an item that is refused
pub takes_refused : (k : Kind) (x : State) (i : RawEvent) (above s : List State)
    (ts : List Token) (f : Option Fault) (ds : Directives) (g : Fault) → IsNext k ts
    → choice_at x (type_by k) ≡ Take
    → taken_at x (token_by k (front_of ts)) ≡ taken (Some i) above → settle i ds ≡ refused g
    → read ts f (x ∷ s) ds ≡ stopped g (left_behind ts)
takes_refused k x i above s ts f ds g n e y h =
    ap (λ (z : List Token). read z f (x ∷ s) ds) n.same
    ∙ read_by (given_by (taken (Some i) above) s) (front_of ts) (rest_of ts) f (x ∷ s) ds (fed_at Take k x (front_of ts) s n.is e ∙ ap (λ (z : Taken). given_by z s) (taken_by k x (front_of ts) (taken (Some i) above) n.is y))
    ∙ fed_refused i (above ++ s) (rest_of ts) f ds g h

pub leaves_refused : (k : Kind) (x : State) (s : List State)
    (ts : List Token) (f : Option Fault) (ds : Directives) (g : Fault) → IsNext k ts
    → choice_at x (type_by k) ≡ Leave
    → settle (left_at x (front_of ts).start_mark) ds ≡ refused g
    → read ts f (x ∷ s) ds ≡ stopped g (left_behind ts)
leaves_refused k x s ts f ds g n e h =
    ap (λ (z : List Token). read z f (x ∷ s) ds) n.same
    ∙ read_by _ (front_of ts) (rest_of ts) f (x ∷ s) ds (fed_at Leave k x (front_of ts) s n.is e)
    ∙ fed_leaves_refused (left_at x (front_of ts).start_mark) (feed s (front_of ts)) (rest_of ts) f ds g h

-- ---- a node that has to come

-- its first token does what that comes to
pub node_by : (k : Kind) (w : Wants) (s : List State) (ts : List Token) (f : Option Fault)
    (ds : Directives) (fed : Fed) → IsNext k ts → node_turn w (token_by k (front_of ts)) s ≡ fed
    → read_node w ts f s ds ≡ read_fed fed (rest_of ts) f ds
unfolding read_node
node_by k w s ts f ds fed n e =
    ap (λ (z : List Token). read_node w z f s ds) n.same
    ∙ ap (λ (t : Token). read_fed (node_turn w t s) (rest_of ts) f ds) (token_is k (front_of ts) n.is)
    ∙ ap (λ (z : Fed). read_fed z (rest_of ts) f ds) e

-- where a state does what a node does that has to come
pub awaits : (k : Kind) (x : State) (w : Wants) (s below : List State) (ts : List Token)
    (f : Option Fault) (ds : Directives) → IsNext k ts
    → turn (choice_at x (type_by k)) x (token_by k (front_of ts)) s (feed s (token_by k (front_of ts)))
    ≡ node_turn w (token_by k (front_of ts)) below
    → read ts f (x ∷ s) ds ≡ read_node w ts f below ds
unfolding read_node
awaits k x w s below ts f ds n e =
    ap (λ (z : List Token). read z f (x ∷ s) ds) n.same
    ∙ read_by (node_turn w (front_of ts) below) (front_of ts) (rest_of ts) f (x ∷ s) ds
    (ap (feed (x ∷ s)) (token_is k (front_of ts) n.is)
    ∙ fed_by (choice_at x (type_by k)) x (token_by k (front_of ts)) s (ap (choice_at x) (type_is k (front_of ts).body)) ∙ e
    ∙ ap (λ (t : Token). node_turn w t below) (sym (token_is k (front_of ts) n.is)))
    ∙ sym (ap (λ (z : List Token). read_node w z f below ds) n.same)

-- where a node may be left out and isn't
bare_turn : (place : Site) (m : yaml_mark_t) (b : Bool) (t : Token) (s : List State) (fed : Fed)
    → turn (if b then Take else Refuse (no_node (wants_of place)) None) (state.optional place m) t s fed
    ≡ (if b then given_by (node_taken (wants_of place) t.start_mark t.end_mark t.body) s
    else stop [] (parser_fault (no_node (wants_of place)) t.start_mark t.start_mark))
bare_turn place m true t s fed = refl
bare_turn place m false t s fed = refl

pub optional_awaits : (k : Kind) (place : Site) (m : yaml_mark_t) (s : List State)
    (ts : List Token) (f : Option Fault) (ds : Directives) → IsNext k ts
    → follows place (type_by k) ≡ false
    → read ts f (state.optional place m ∷ s) ds ≡ read_node (wants_of place) ts f s ds
optional_awaits k place m s ts f ds n e =
    let t : Token = token_by k (front_of ts) in
    awaits k (state.optional place m) (wants_of place) s s ts f ds n
    (ap (λ b. turn (if b then Leave else if starts_node (wants_of place) (type_by k) then Take else Refuse (no_node (wants_of place)) None) (state.optional place m) t s (feed s t)) e
    ∙ bare_turn place m (starts_node (wants_of place) (type_by k)) t s (feed s t)
    ∙ ap (λ z. if starts_node (wants_of place) z then given_by (node_taken (wants_of place) t.start_mark t.end_mark t.body) s else stop [] (parser_fault (no_node (wants_of place)) t.start_mark t.start_mark)) (sym (type_is k (front_of ts).body)))

-- after the tokens a fault comes, whatever has to come
pub node_fails : (w : Wants) (s : List State) (f : Fault) (ds : Directives)
    → read_node w [] (Some f) s ds ≡ stopped f 0
unfolding read_node
node_fails w s f ds = refl

-- A look at the next token: a state that does what a node does which has to come, unless a fault is next.
pub look_awaits : (k : Kind) (x : State) (w : Wants) (s below : List State)
    (old new : List Token) (f h : Option Fault) (ds : Directives) → Shows k old f new h
    → (is_fault k ≡ false → read new h (x ∷ s) ds ≡ read_node w new h below ds)
    → (read old f (x ∷ s) ds ≡ read_node w new h below ds) ⊎ IsLost new h
look_awaits k x w s below old new f h ds shows same = known (is_fault k) refl
  where
    known : (b : Bool) → is_fault k ≡ b
        → (read old f (x ∷ s) ds ≡ read_node w new h below ds) ⊎ IsLost new h
    known true e =
        let fault : ShowsFault old f new h = shows_fault k old new f h e shows in
        elim fault.reason [
          | inl m ↦ inr (record { none = fault.none; told = fault.told; ends = fault.ends; memory = m })
          | inr q ↦ inl (ap (λ ts. read ts f (x ∷ s) ds) q.0 ∙ ap (λ z. read [] z (x ∷ s) ds) q.1
              ∙ read_fails x s fault.told ds ∙ sym (node_fails w below fault.told ds)
              ∙ sym (ap (λ ts. read_node w ts h below ds) fault.none ∙ ap (λ z. read_node w [] z below ds) fault.ends))
        ]
    known false e =
        inl (shown_same k old new f h (x ∷ s) ds (shows_token k old new f h e shows) ∙ same e)
