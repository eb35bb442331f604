-- The events that items mean; after a tag whose handle nothing defines, none.
use Rattle.std.proofs.Common.{◌≡◌, ℕ, List, [], ◌∷◌, ◌++◌, length, map, Option, Some, None, refl, ap, sym, subst, ◌∙◌, arith}
use Rattle.yaml_parse_laws_trees.proofs.Words.{stop, yaml_mark_t, Token, TokenBody, Fault, Event, Wants, Flow, Block, RawEvent, Tag, Shape, State, Given, item_at, Fed, go, with_item, feed, Outcome, carry, run, Directives, Settled, refused, gave, noted, settle, resolved, with_resolved, Reading, placed, read_on, reading, reading_of, told}
use Rattle.yaml_parse_model.specs.scan_types.Tokens as token
use Rattle.yaml_parse_laws_trees.specs.parse_grammar.Items as item
use Rattle.yaml_parse_laws_trees.specs.parse_grammar.States as state
use Rattle.yaml_parse_laws_trees.proofs.Refusal.{not_none}
use Rattle.yaml_parse_laws_trees.proofs.Settling.{Done, bad, fine, then_read, read_all}
use Rattle.yaml_parse_laws_trees.proofs.Properties.{tok}
use Rattle.yaml_parse_laws_trees.proofs.Taking.{ending_of, front_read}
use Rattle.yaml_parse_laws_trees.proofs.Ending.{runs_fed}

-- ---- what items mean, up to the first fault

abbrev pub meant_on : Settled → RawEvent → (Directives → List Event) → List Event
meant_on (refused f) i k = []
meant_on (gave body ds) i k = placed body i ∷ k ds
meant_on (noted ds) i k = k ds

abbrev pub meant : List RawEvent → Directives → List Event
meant [] ds = []
meant (i ∷ is) ds = meant_on (settle i ds) i (λ d. meant is d)

abbrev pub where_fine : Done → (Directives → List Event) → List Event
where_fine (bad e) k = []
where_fine (fine ds) k = k ds

one_meant : (c : Settled) (i : RawEvent) (left : ℕ) (k : Directives → Reading)
    (g : Directives → List Event) (l : Directives → Done) (m : Directives → List Event)
    → ((ds : Directives) → told (k ds).events ≡ g ds ++ where_fine (l ds) m)
    → told (read_on c i left k).events ≡ meant_on c i g ++ where_fine (then_read c l) m
one_meant c i left k g l m h = grind arith

front_meant : (is : List RawEvent) (left : ℕ) (gs : List Given) (f : Option Fault)
    (ds : Directives)
    → told (reading (map (λ (i : RawEvent). (i, left)) is ++ gs) f ds).events
    ≡ meant is ds ++ where_fine (read_all is ds) (λ d. told (reading gs f d).events)
unfolding reading
front_meant [] left gs f ds = refl
front_meant (i ∷ is) left gs f ds =
    one_meant (settle i ds) i left (λ d. reading (map (λ (i : RawEvent). (i, left)) is ++ gs) f d) (λ d. meant is d) (λ d. read_all is d) (λ d. told (reading gs f d).events) (λ d. front_meant is left gs f d)

-- a token that goes
pub go_meant : (s s' : List State) (t : Token) (ts : List Token) (f : Option Fault)
    (ds : Directives) (is : List RawEvent) → feed s t ≡ go is s'
    → told (reading_of (run (t ∷ ts) s f) ds).events
    ≡ meant is ds ++ where_fine (read_all is ds) (λ d. told (reading_of (run ts s' f) d).events)
go_meant s s' t ts f ds is p =
    ap (λ (o : Outcome). told (reading_of o ds).events) (runs_fed s t ts f (go is s') p) ∙ front_meant is (length ts) (run ts s' f).items (run ts s' f).ending ds

pub go_ends : (s s' : List State) (t : Token) (ts : List Token) (f : Option Fault)
    (ds : Directives) (is : List RawEvent) → feed s t ≡ go is s'
    → (reading_of (run (t ∷ ts) s f) ds).ending
    ≡ ending_of (read_all is ds) (λ d. (reading_of (run ts s' f) d).ending)
go_ends s s' t ts f ds is p =
    ap (λ (o : Outcome). (reading_of o ds).ending) (runs_fed s t ts f (go is s') p) ∙ front_read is (length ts) (run ts s' f).items (run ts s' f).ending ds

-- ---- a tag whose handle nothing defines

-- nothing is meant any more, and it ends in a fault
pub record Doomed (r : Reading) : Type 0 where
  pub events : r.events ≡ []
  pub ending : r.ending ≡ None → ⊥

doomed_first : (i : RawEvent) (left : ℕ) (gs : List Given) (f : Option Fault) (ds : Directives)
    (e : Fault) → settle i ds ≡ refused e → Doomed (reading ((i, left) ∷ gs) f ds)
unfolding reading
doomed_first i left gs f ds e h = subst (λ (c : Settled). Doomed (read_on c i left (λ d. reading gs f d))) (sym h) (record { events = refl; ending = λ q. not_none e q })

doomed_with : (left : ℕ) (i : RawEvent) (fed : Fed) (k : List State → Outcome) (ds : Directives)
    (e : Fault) → settle i ds ≡ refused e
    → Doomed (reading_of (carry left (with_item i fed) k) ds)
doomed_with left i (stop is g) k ds e h = doomed_first i left (map (λ (j : RawEvent). (j, left)) is) (Some g) ds e h
doomed_with left i (go is s) k ds e h = doomed_first i left (map (λ (j : RawEvent). (j, left)) is ++ (k s).items) (k s).ending ds e h

abbrev pub IsLost : Tag → Directives → Type 0
IsLost g ds = resolved ds.tags g.handle g.suffix ≡ None

lost_node : (a : Option (List ℕ)) (g : Tag) (shape : Shape) (from to : yaml_mark_t)
    (ds : Directives) → IsLost g ds
    → settle (item_at (item.node a (Some g) shape) from to) ds
    ≡ with_resolved None a shape from g.mark ds
lost_node a g shape from to ds l = ap (λ (o : Option (List ℕ)). with_resolved o a shape from g.mark ds) l

abbrev holding : Wants → Option (List ℕ) → Tag → yaml_mark_t → yaml_mark_t → State
holding w a g from to = state.with_properties w (record { anchor = a; tag = Some g; from = from; to = to })

doomed_at : (w : Wants) (a : Option (List ℕ)) (g : Tag) (from to start end : yaml_mark_t)
    (b : TokenBody) (ts : List Token) (s : List State) (f : Option Fault) (ds : Directives)
    → IsLost g ds
    → ((name : List ℕ) → Doomed (reading_of (run ts (holding w (Some name) g from end ∷ s) f) ds))
    → Doomed (reading_of (carry (length ts) (feed (holding w a g from to ∷ s) (tok b start end))
    (λ s'. run ts s' f)) ds)
unfolding feed
doomed_at w None g from to start end (token.anchor name) ts s f ds l k = k name
doomed_at w a g from to start end (token.scalar value style) ts s f ds l k =
    doomed_with (length ts) (item_at (item.node a (Some g) (item.scalar value style)) from end) (go [] s) (λ s'. run ts s' f) ds _ (lost_node a g _ from end ds l)
doomed_at w a g from to start end token.flow_sequence_start ts s f ds l k = doomed_with (length ts) (item_at (item.node a (Some g) _) from end) (go [] (_ ∷ s)) (λ s'. run ts s' f) ds _ (lost_node a g _ from end ds l)
doomed_at w a g from to start end token.flow_mapping_start ts s f ds l k = doomed_with (length ts) (item_at (item.node a (Some g) _) from end) (go [] (_ ∷ s)) (λ s'. run ts s' f) ds _ (lost_node a g _ from end ds l)
doomed_at (Block side) a g from to start end token.block_sequence_start ts s f ds l k = doomed_with (length ts) (item_at (item.node a (Some g) _) from end) (go [] (_ ∷ s)) (λ s'. run ts s' f) ds _ (lost_node a g _ from end ds l)
doomed_at (Block side) a g from to start end token.block_mapping_start ts s f ds l k = doomed_with (length ts) (item_at (item.node a (Some g) _) from end) (go [] (_ ∷ s)) (λ s'. run ts s' f) ds _ (lost_node a g _ from end ds l)
doomed_at (Block (Some side)) a g from to start end token.block_entry ts s f ds l k = doomed_with (length ts) (item_at (item.node a (Some g) _) from end) (go [] (_ ∷ _ ∷ s)) (λ s'. run ts s' f) ds _ (lost_node a g _ from end ds l)
doomed_at (Block None) a g from to start end token.block_entry ts s f ds l k = doomed_with (length ts) (item_at (item.node a (Some g) item.empty) from to) (feed s _) (λ s'. run ts s' f) ds _ (lost_node a g item.empty from to ds l)
doomed_at Flow a g from to start end token.block_entry ts s f ds l k = doomed_with (length ts) (item_at (item.node a (Some g) item.empty) from to) (feed s _) (λ s'. run ts s' f) ds _ (lost_node a g item.empty from to ds l)
doomed_at Flow a g from to start end token.block_sequence_start ts s f ds l k = doomed_with (length ts) (item_at (item.node a (Some g) item.empty) from to) (feed s _) (λ s'. run ts s' f) ds _ (lost_node a g item.empty from to ds l)
doomed_at Flow a g from to start end token.block_mapping_start ts s f ds l k = doomed_with (length ts) (item_at (item.node a (Some g) item.empty) from to) (feed s _) (λ s'. run ts s' f) ds _ (lost_node a g item.empty from to ds l)
doomed_at w (Some x) g from to start end (token.anchor name) ts s f ds l k = doomed_with (length ts) (item_at (item.node (Some x) (Some g) item.empty) from to) (feed s _) (λ s'. run ts s' f) ds _ (lost_node (Some x) g item.empty from to ds l)
doomed_at w a g from to start end b ts s f ds l k = doomed_with (length ts) (item_at (item.node a (Some g) item.empty) from to) (feed s (tok b start end)) (λ s'. run ts s' f) ds _ (lost_node a g item.empty from to ds l)

doomed_end : (w : Wants) (a : Option (List ℕ)) (g : Tag) (from to : yaml_mark_t) (s : List State)
    (f : Option Fault) (ds : Directives) → IsLost g ds
    → Doomed (reading_of (run [] (holding w a g from to ∷ s) f) ds)
unfolding run feed reading
doomed_end w a g from to s f ds l = grind (arith, not_none, doomed_with, lost_node)

doomed_run : (us : List Token) (w : Wants) (a : Option (List ℕ)) (g : Tag) (from to : yaml_mark_t)
    (s : List State) (f : Option Fault) (ds : Directives) → IsLost g ds
    → Doomed (reading_of (run us (holding w a g from to ∷ s) f) ds)
unfolding run
doomed_run [] w a g from to s f ds l = doomed_end w a g from to s f ds l
doomed_run (t ∷ ts) w a g from to s f ds l =
    doomed_at w a g from to t.start_mark t.end_mark t.body ts s f ds l (λ name. doomed_run ts w (Some name) g from t.end_mark s f ds l)

-- such a tag is among the properties that the state on top holds
abbrev pub HoldsLost : State → Directives → Type 0
HoldsLost (state.with_properties w p) ds = (g : Tag) × (p.tag ≡ Some g) × IsLost g ds
HoldsLost _ ds = ⊥

doomed_held : (w : Wants) (a : Option (List ℕ)) (o : Option Tag) (from to : yaml_mark_t)
    (us : List Token) (s : List State) (f : Option Fault) (ds : Directives) (g : Tag)
    → o ≡ Some g → IsLost g ds
    → Doomed (reading_of (run us (state.with_properties w
    (record { anchor = a; tag = o; from = from; to = to }) ∷ s) f) ds)
doomed_held w a o from to us s f ds g e l = grind (arith, doomed_run)

pub doomed : (x : State) (us : List Token) (s : List State) (f : Option Fault) (ds : Directives)
    → HoldsLost x ds → Doomed (reading_of (run us (x ∷ s) f) ds)
doomed (state.with_properties w p) us s f ds h = doomed_held w p.anchor p.tag p.from p.to us s f ds h.0 h.1 h.2
doomed _ us s f ds h = absurd h
