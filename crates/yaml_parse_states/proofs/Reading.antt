-- How what is to come goes on at a token.
use Rattle.std.proofs.Common.{◌≡◌, ℕ, List, [], ◌∷◌, length, Option, Some, None, refl, ap, ◌∙◌, arith}
use Rattle.yaml_parse_model.specs.scan_types.Tokens.{Token}
use Rattle.yaml_parse_model.specs.scan_types.Faults.{Fault}
use Rattle.yaml_parse_model.specs.Source.{front_of, rest_of, MayAnswer}
use Rattle.yaml_parse_model.specs.Events.{EventBody}
use Rattle.yaml_parse_grammar.specs.Items.{RawEvent}
use Rattle.yaml_parse_grammar.specs.States.{State}
use Rattle.yaml_parse_grammar.specs.Machine.{Fed, stop, go, with_item, feed, run, unasked_at_stop, left_where_stopped, carry, Outcome}
use Rattle.yaml_parse_grammar.specs.Resolve.{Directives, Settled, gave, noted, refused, settle, placed, reading, read_on, unasked_at_fault, unasked_on}
use Rattle.yaml_parse_grammar.proofs.Complete.{carry_with_item}
use Rattle.yaml_parse_grammar.proofs.CompleteStream.{nothing_runs}
use Rattle.yaml_parse_grammar.proofs.Single.{front_runs, front_stops}
use Rattle.yaml_parse_states.specs.Coming.{coming_by, ahead, stopped, nothing, read, read_fed}

-- ---- the front of the tokens

pub read_front : (ts : List Token) (f : Option Fault) (s : List State) (ds : Directives)
    → MayAnswer ts f → read (front_of ts ∷ rest_of ts) f s ds ≡ read ts f s ds
unfolding read
read_front ts f s ds h =
    ap (λ (o : Outcome). coming_by (reading o.items o.ending ds) (unasked_at_fault o.items (unasked_at_stop (front_of ts ∷ rest_of ts) s) ds)) (front_runs ts f h s)
    ∙ ap (λ (n : ℕ). coming_by (reading (run ts s f).items (run ts s f).ending ds) (unasked_at_fault (run ts s f).items n ds)) (front_stops ts s)

-- the topmost states come to that at the token
pub read_by : (fed : Fed) (t : Token) (ts : List Token) (f : Option Fault) (s : List State)
    (ds : Directives) → feed s t ≡ fed → read (t ∷ ts) f s ds ≡ read_fed fed ts f ds
unfolding read read_fed run unasked_at_stop
read_by fed t ts f s ds h = ap (λ (z : Fed). read_fed z ts f ds) h

-- ---- items one after another

reading_settled : (i : RawEvent) (left : ℕ) (o : Outcome) (n : ℕ) (ds : Directives) (c : Settled)
    → settle i ds ≡ c
    → coming_by (reading ((i, left) ∷ o.items) o.ending ds) (unasked_at_fault ((i, left) ∷ o.items) n ds)
    ≡ coming_by (read_on c i left (λ d. reading o.items o.ending d))
    (unasked_on c left (λ d. unasked_at_fault o.items n d))
unfolding reading unasked_at_fault
reading_settled i left o n ds c h =
    ap (λ (c : Settled). coming_by (read_on c i left (λ d. reading o.items o.ending d)) (unasked_on c left (λ d. unasked_at_fault o.items n d))) h

-- ---- what a token comes to

pub fed_silent : (s : List State) (ts : List Token) (f : Option Fault) (ds : Directives)
    → read_fed (go [] s) ts f ds ≡ read ts f s ds
unfolding read read_fed
fed_silent s ts f ds = refl

pub fed_gives : (i : RawEvent) (s : List State) (ts : List Token) (f : Option Fault)
    (ds ds' : Directives) (b : EventBody) → settle i ds ≡ gave b ds'
    → read_fed (go (i ∷ []) s) ts f ds ≡ ahead (placed b i) (length ts) (read ts f s ds')
unfolding read read_fed
fed_gives i s ts f ds ds' b h = reading_settled i (length ts) (run ts s f) (unasked_at_stop ts s) ds (gave b ds') h

pub fed_notes : (i : RawEvent) (s : List State) (ts : List Token) (f : Option Fault)
    (ds ds' : Directives) → settle i ds ≡ noted ds'
    → read_fed (go (i ∷ []) s) ts f ds ≡ read ts f s ds'
unfolding read read_fed
fed_notes i s ts f ds ds' h = reading_settled i (length ts) (run ts s f) (unasked_at_stop ts s) ds (noted ds') h

pub fed_refused : (i : RawEvent) (s : List State) (ts : List Token) (f : Option Fault)
    (ds : Directives) (e : Fault) → settle i ds ≡ refused e
    → read_fed (go (i ∷ []) s) ts f ds ≡ stopped e (length ts)
unfolding read_fed
fed_refused i s ts f ds e h = reading_settled i (length ts) (run ts s f) (unasked_at_stop ts s) ds (refused e) h

pub fed_stops : (e : Fault) (ts : List Token) (f : Option Fault) (ds : Directives)
    → read_fed (stop [] e) ts f ds ≡ stopped e (length ts)
unfolding read_fed reading unasked_at_fault
fed_stops e ts f ds = refl

with_item_stops : (left : ℕ) (i : RawEvent) (fed : Fed) (k : List State → ℕ)
    → left_where_stopped left (with_item i fed) k ≡ left_where_stopped left fed k
with_item_stops left i fed k = grind arith

-- an item before what a token comes to
fed_item : (i : RawEvent) (fed : Fed) (ts : List Token) (f : Option Fault) (ds : Directives)
    (c : Settled) → settle i ds ≡ c
    → read_fed (with_item i fed) ts f ds
    ≡ coming_by (read_on c i (length ts) (λ d. reading (carry (length ts) fed (λ s. run ts s f)).items (carry (length ts) fed (λ s. run ts s f)).ending d))
    (unasked_on c (length ts) (λ d. unasked_at_fault (carry (length ts) fed (λ s. run ts s f)).items (left_where_stopped (length ts) fed (λ s. unasked_at_stop ts s)) d))
unfolding read_fed
fed_item i fed ts f ds c h =
    ap (λ (o : Outcome). coming_by (reading o.items o.ending ds) (unasked_at_fault o.items (left_where_stopped (length ts) (with_item i fed) (λ s. unasked_at_stop ts s)) ds)) (carry_with_item (length ts) i fed (λ s. run ts s f))
    ∙ ap (λ (n : ℕ). coming_by (reading ((i, length ts) ∷ (carry (length ts) fed (λ s. run ts s f)).items) (carry (length ts) fed (λ s. run ts s f)).ending ds) (unasked_at_fault ((i, length ts) ∷ (carry (length ts) fed (λ s. run ts s f)).items) n ds)) (with_item_stops (length ts) i fed (λ s. unasked_at_stop ts s))
    ∙ reading_settled i (length ts) (carry (length ts) fed (λ s. run ts s f)) (left_where_stopped (length ts) fed (λ s. unasked_at_stop ts s)) ds c h

pub fed_leaves : (i : RawEvent) (fed : Fed) (ts : List Token) (f : Option Fault)
    (ds ds' : Directives) (b : EventBody) → settle i ds ≡ gave b ds'
    → read_fed (with_item i fed) ts f ds ≡ ahead (placed b i) (length ts) (read_fed fed ts f ds')
unfolding read_fed
fed_leaves i fed ts f ds ds' b h = fed_item i fed ts f ds (gave b ds') h

pub fed_leaves_refused : (i : RawEvent) (fed : Fed) (ts : List Token) (f : Option Fault)
    (ds : Directives) (e : Fault) → settle i ds ≡ refused e
    → read_fed (with_item i fed) ts f ds ≡ stopped e (length ts)
unfolding read_fed
fed_leaves_refused i fed ts f ds e h = fed_item i fed ts f ds (refused e) h

-- ---- after the tokens

pub read_fails : (x : State) (s : List State) (f : Fault) (ds : Directives)
    → read [] (Some f) (x ∷ s) ds ≡ stopped f 0
unfolding read run reading unasked_at_stop unasked_at_fault
read_fails x s f ds = refl

stops_nowhere : (ts : List Token) → unasked_at_stop ts [] ≡ 0
unfolding unasked_at_stop feed
stops_nowhere [] = refl
stops_nowhere (t ∷ ts) = stops_nowhere ts

pub read_over : (ts : List Token) (f : Option Fault) (ds : Directives)
    → read ts f [] ds ≡ nothing
unfolding read reading unasked_at_fault
read_over ts f ds =
    ap (λ (o : Outcome). coming_by (reading o.items o.ending ds) (unasked_at_fault o.items (unasked_at_stop ts []) ds)) (nothing_runs ts f)
    ∙ ap (λ (n : ℕ). coming_by (record { events = []; ending = None }) n) (stops_nowhere ts)
