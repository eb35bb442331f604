-- Nodes: what their first tokens come to, after properties and without.
use Rattle.std.proofs.Common.{◌≡◌, ℕ, Bool, true, false, if◌then◌else◌, ◌||◌, List, [], ◌∷◌, ◌++◌, Option, Some, None, option_map, refl, sym, ap, subst, ◌∙◌, arith}
use Rattle.std.proofs.Math.Bool.{or-true}
use Rattle.std.proofs.lemmas.Bool.{false≢true}
use Rattle.yaml_parse_model.specs.declared.yaml_mark_t.{yaml_mark_t}
use Rattle.yaml_parse_model.specs.scan_types.Tokens.{Token, TokenBody}
use Rattle.yaml_parse_model.specs.scan_types.Faults.{Fault}
use Rattle.yaml_parse_model.specs.Source.{front_of, rest_of}
use Rattle.yaml_parse_model.specs.Events.{EventBody, TagDirective}
use Rattle.yaml_parse_grammar.specs.declared.name.Choice.TheVariants.{Take, Leave}
use Rattle.yaml_parse_grammar.specs.declared.name.Wants.{Wants}
use Rattle.yaml_parse_grammar.specs.declared.name.Wants.TheVariants.{Flow, Block}
use Rattle.yaml_parse_grammar.specs.declared.problem.ParseProblem.TheVariants as problem
use Rattle.yaml_parse_grammar.specs.Problems.{parser_fault}
use Rattle.yaml_parse_grammar.specs.Items.{RawEvent, Properties, Shape, Tag, node_at, item_at, properties_alone}
use Rattle.yaml_parse_grammar.specs.Items as item
use Rattle.yaml_parse_grammar.specs.States.{State, Taken}
use Rattle.yaml_parse_grammar.specs.States as grammar
use Rattle.yaml_parse_grammar.specs.Machine.{stop, given_by, joins, choice_at, taken, starts_content, starts_node, content_taken, node_taken, with_properties_taken, no_node}
use Rattle.yaml_parse_grammar.specs.Resolve.{Directives, gave, refused, settle, settle_body, placed, node_event, resolved, with_resolved}
use Rattle.yaml_scan_model.specs.declared.kind.Kind.{Kind}
use Rattle.yaml_scan_model.specs.declared.kind.Kind.TheVariants as kind
use Rattle.yaml_scan_model.specs.Kinds.{body_by, type_by}
use Rattle.yaml_scan_model.specs.Shows.{IsNext, left_behind}
use Rattle.yaml_scan_model.specs.declared.tokens.Tokens.{Ghosts}
use Rattle.yaml_parse_states.specs.declared.parser.Parser.{Parser}
use Rattle.yaml_parse_states.specs.Coming.{ahead, stopped, read, read_node}
use Rattle.yaml_parse_states.specs.Views.{directives_of, text_if}
use Rattle.yaml_parse_states.specs.Nodes.{AreProperties, IsBegun, IsResolved, IsShown, IsTag, anchor_of, begun, begun_by, joins_in, node_told, prefix_for, tag_of}
use Rattle.yaml_parse_states.proofs.Reading.{fed_gives, fed_stops}
use Rattle.yaml_parse_states.proofs.Properties.{joins_are}
use Rattle.yaml_parse_states.proofs.Ways.{states_in}
use Rattle.yaml_parse_states.proofs.Fronts.{gives, leaves, leaves_refused, node_by, takes_refused}

-- ---- contents

-- without properties a content is a node
start_same : (w : Wants) (k : Kind) → starts_content w (type_by k) ≡ true
    → starts_node w (type_by k) ≡ true
start_same w kind.Alias h = refl
start_same w kind.Anchor h = refl
start_same w kind.Tag h = refl
start_same w k h = h

taken_bare : (w : Wants) (k : Kind) (t : Token) → starts_content w (type_by k) ≡ true
    → node_taken w t.start_mark t.end_mark (body_by k t.body)
    ≡ content_taken w None t.start_mark t.end_mark (body_by k t.body)
taken_bare w kind.Alias t h = absurd (false≢true h)
taken_bare w kind.Anchor t h = absurd (false≢true h)
taken_bare w kind.Tag t h = absurd (false≢true h)
taken_bare Flow kind.BlockEntry t h = absurd (false≢true h)
taken_bare (Block None) kind.BlockEntry t h = absurd (false≢true h)
taken_bare (Block (Some s)) kind.BlockEntry t h = refl
taken_bare w k t h = refl

taken_behind : (w : Wants) (q : Properties) (k : Kind) (t : Token)
    → starts_content w (type_by k) ≡ true
    → with_properties_taken w q t.start_mark t.end_mark (body_by k t.body)
    ≡ content_taken w (Some q) t.start_mark t.end_mark (body_by k t.body)
taken_behind w q kind.Anchor t h = absurd (false≢true h)
taken_behind w q kind.Tag t h = absurd (false≢true h)
taken_behind w q k t h = refl

type_is : (k : Kind) (t : Token)
    → Rattle.yaml_parse_model.specs.scan_types.Tokens.type_of (body_by k t.body) ≡ type_by k
type_is k t = grind arith

pub content_gives : (k : Kind) (w : Wants) (q : Option Properties) (i : RawEvent) (b : EventBody)
    (above s : List State) (ts : List Token) (f : Option Fault) (ds : Directives)
    → IsNext k ts → starts_content w (type_by k) ≡ true
    → content_taken w q (front_of ts).start_mark (front_of ts).end_mark (body_by k (front_of ts).body)
    ≡ taken (Some i) above
    → settle i ds ≡ gave b ds
    → begun_by w q ts f s ds
    ≡ ahead (placed b i) (left_behind ts) (read (rest_of ts) f (above ++ s) ds)
content_gives k w None i b above s ts f ds n e t h =
    let u : Token = front_of ts in
    node_by k w s ts f ds (given_by (taken (Some i) above) s) n
    (ap (λ z. if z then given_by (node_taken w u.start_mark u.end_mark (body_by k u.body)) s else stop [] (parser_fault (no_node w) u.start_mark u.start_mark))
    (ap (starts_node w) (type_is k u) ∙ start_same w k e)
    ∙ ap (λ (z : Taken). given_by z s) (taken_bare w k u e ∙ t))
    ∙ fed_gives i (above ++ s) (rest_of ts) f ds ds b h
content_gives k w (Some q) i b above s ts f ds n e t h =
    gives k (grammar.with_properties w q) i b above s ts f ds ds n
    (ap (λ z. if joins q (type_by k) || z then Take else Leave) e ∙ ap (λ z. if z then Take else Leave) (or-true (joins q (type_by k))))
    (taken_behind w q k (front_of ts) e ∙ t) h

-- no content: there is no node
pub none_starts : (k : Kind) (w : Wants) (s : List State) (ts : List Token) (f : Option Fault)
    (ds : Directives) → IsNext k ts → starts_content w (type_by k) ≡ false
    → (k ≡ kind.Alias → ⊥) → (k ≡ kind.Anchor → ⊥) → (k ≡ kind.Tag → ⊥)
    → read_node w ts f s ds
    ≡ stopped (parser_fault (no_node w) (front_of ts).start_mark (front_of ts).start_mark) (left_behind ts)
none_starts k w s ts f ds n e a b c =
    let u : Token = front_of ts in
    node_by k w s ts f ds (stop [] (parser_fault (no_node w) u.start_mark u.start_mark)) n
    (ap (λ z. if z then given_by (node_taken w u.start_mark u.end_mark (body_by k u.body)) s else stop [] (parser_fault (no_node w) u.start_mark u.start_mark))
    (ap (starts_node w) (type_is k u) ∙ known k a b c e))
    ∙ fed_stops (parser_fault (no_node w) u.start_mark u.start_mark) (rest_of ts) f ds
  where
    known : (k : Kind) → (k ≡ kind.Alias → ⊥) → (k ≡ kind.Anchor → ⊥) → (k ≡ kind.Tag → ⊥)
        → starts_content w (type_by k) ≡ false → starts_node w (type_by k) ≡ false
    known kind.Alias a b c h = absurd (a refl)
    known kind.Anchor a b c h = absurd (b refl)
    known kind.Tag a b c h = absurd (c refl)
    known k a b c h = h

-- ---- the event of a node

pub tag_settles : {T P : Type 0} (g : Ghosts T P) (t : Option Tag) (anchor : Option (List ℕ))
    (shape : Shape) (from : yaml_mark_t) (p : Parser T P) → IsTag g t p → p.undefined ≡ None
    → settle_body (item.node anchor t shape) from (directives_of p.directives)
    ≡ gave (node_event anchor (tag_of p) shape) (directives_of p.directives)
tag_settles g None anchor shape from p h n =
    ap (λ b. gave (node_event anchor (text_if b p.tag.items) shape) (directives_of p.directives)) (sym h.0)
tag_settles g (Some t) anchor shape from p h n =
    ap (λ o. with_resolved o anchor shape from t.mark (directives_of p.directives)) (subst (λ o. IsResolved g t o p) n h.1)
    ∙ ap (λ b. gave (node_event anchor (text_if b p.tag.items) shape) (directives_of p.directives)) (sym h.0)

pub tag_refused : {T P : Type 0} (g : Ghosts T P) (t : Option Tag) (anchor : Option (List ℕ))
    (shape : Shape) (from : yaml_mark_t) (p : Parser T P) (at : P) → IsTag g t p
    → p.undefined ≡ Some at
    → settle_body (item.node anchor t shape) from (directives_of p.directives)
    ≡ refused (parser_fault problem.UndefinedHandle (g.mark_of p.tokens at) from)
tag_refused g None anchor shape from p at h n = cc
tag_refused g (Some t) anchor shape from p at h n =
    let r : IsResolved g t (Some at) p = subst (λ o. IsResolved g t o p) n h.1 in
    ap (λ o. with_resolved o anchor shape from t.mark (directives_of p.directives)) r.0
    ∙ ap (λ m. refused (parser_fault problem.UndefinedHandle m from)) r.1

pub node_settles : {T P : Type 0} (g : Ghosts T P) (q : Option Properties) (shape : Shape)
    (from to : yaml_mark_t) (p : Parser T P) → IsBegun g q p → p.undefined ≡ None
    → settle (node_at q shape from to) (directives_of p.directives)
    ≡ gave (node_event (anchor_of p) (tag_of p) shape) (directives_of p.directives)
node_settles g None shape from to p h n =
    ap (λ b. gave (node_event (text_if b p.anchor.items) None shape) (directives_of p.directives)) (sym h.anchor)
    ∙ ap (λ b. gave (node_event (anchor_of p) (text_if b p.tag.items) shape) (directives_of p.directives)) (sym h.tag)
node_settles g (Some q) shape from to p h n =
    tag_settles g q.tag q.anchor shape q.from p h.tag n
    ∙ ap (λ a. gave (node_event a (tag_of p) shape) (directives_of p.directives)) h.anchor

pub node_refused : {T P : Type 0} (g : Ghosts T P) (q : Properties) (shape : Shape)
    (to : yaml_mark_t) (p : Parser T P) (at : P) → AreProperties g q p → p.undefined ≡ Some at
    → settle (item_at (item.node q.anchor q.tag shape) q.from to) (directives_of p.directives)
    ≡ refused (parser_fault problem.UndefinedHandle (g.mark_of p.tokens at) (g.mark_of p.tokens p.event.start))
node_refused g q shape to p at h n =
    tag_refused g q.tag q.anchor shape q.from p at h.tag n
    ∙ ap (λ m. refused (parser_fault problem.UndefinedHandle (g.mark_of p.tokens at) m)) (sym h.from)

-- ---- tags in full

pub resolved_by : (ds : List TagDirective) (handle suffix : List ℕ)
    → resolved ds handle suffix ≡ option_map (λ prefix. prefix ++ suffix) (prefix_for ds handle)
resolved_by ds [] suffix = refl
resolved_by ds (c ∷ handle) suffix = refl

-- ---- the rest of a node after properties, where the token is none

-- a content's token is taken for an item of a node
pub record Taking (w : Wants) (k : Kind) (t : Token) (q : Properties) : Type 0 where
  pub shape : Shape
  pub above : List State
  pub is : content_taken w (Some q) t.start_mark t.end_mark (body_by k t.body)
      ≡ taken (Some (item_at (item.node q.anchor q.tag shape) q.from t.end_mark)) above

taking : (w : Wants) (k : Kind) (t : Token) (q : Properties) → starts_content w (type_by k) ≡ true
    → Taking w k t q
taking w kind.Scalar t q h = record { shape = _; above = _; is = refl }
taking w kind.FlowSequenceStart t q h = record { shape = _; above = _; is = refl }
taking w kind.FlowMappingStart t q h = record { shape = _; above = _; is = refl }
taking w kind.BlockSequenceStart t q h = record { shape = _; above = _; is = refl }
taking w kind.BlockMappingStart t q h = record { shape = _; above = _; is = refl }
taking Flow kind.BlockEntry t q h = absurd (false≢true h)
taking (Block None) kind.BlockEntry t q h = absurd (false≢true h)
taking (Block (Some s)) kind.BlockEntry t q h = record { shape = _; above = _; is = refl }
taking w k t q h = absurd (false≢true h)

-- none is left to be taken
behind_choice : (w : Wants) (q : Properties) (k : Kind) (b : Bool) → joins q (type_by k) ≡ false
    → starts_content w (type_by k) ≡ b
    → choice_at (grammar.with_properties w q) (type_by k) ≡ (if b then Take else Leave)
behind_choice w q k b j h =
    ap (λ z. if z || starts_content w (type_by k) then Take else Leave) j ∙ ap (λ z. if z then Take else Leave) h

pub undefined_read : {T P : Type 0} (g : Ghosts T P) (k : Kind) (w : Wants) (q : Properties)
    (p : Parser T P) (at : P) → IsShown g k p.tokens → joins_in k p.event ≡ false
    → AreProperties g q p → p.undefined ≡ Some at
    → begun g w (Some q) p
    ≡ stopped (parser_fault problem.UndefinedHandle (g.mark_of p.tokens at) (g.mark_of p.tokens p.event.start))
    (left_behind (g.to_come p.tokens))
undefined_read g k w q p at shown j a n = known (starts_content w (type_by k)) refl
  where
    known : (b : Bool) → starts_content w (type_by k) ≡ b → begun g w (Some q) p
        ≡ stopped (parser_fault problem.UndefinedHandle (g.mark_of p.tokens at) (g.mark_of p.tokens p.event.start))
        (left_behind (g.to_come p.tokens))
    known true h =
        let z : Taking w k (front_of (g.to_come p.tokens)) q = taking w k (front_of (g.to_come p.tokens)) q h in
        takes_refused k (grammar.with_properties w q) (item_at (item.node q.anchor q.tag z.shape) q.from (front_of (g.to_come p.tokens)).end_mark) z.above _ (g.to_come p.tokens) (g.fault_to_come p.tokens) (directives_of p.directives) _ shown.next
        (behind_choice w q k true (joins_are g q p k a ∙ j) h)
        (taken_behind w q k (front_of (g.to_come p.tokens)) h ∙ z.is)
        (node_refused g q z.shape (front_of (g.to_come p.tokens)).end_mark p at a n)
    known false h =
        leaves_refused k (grammar.with_properties w q) _ (g.to_come p.tokens) (g.fault_to_come p.tokens) (directives_of p.directives) _ shown.next
        (behind_choice w q k false (joins_are g q p k a ∙ j) h)
        (node_refused g q item.empty q.to p at a n)

-- it is empty
pub alone_read : {T P : Type 0} (g : Ghosts T P) (k : Kind) (w : Wants) (q : Properties)
    (p : Parser T P) → IsShown g k p.tokens → joins_in k p.event ≡ false
    → starts_content w (type_by k) ≡ false → AreProperties g q p → p.undefined ≡ None
    → begun g w (Some q) p
    ≡ ahead (node_told g item.empty (g.mark_of p.tokens p.event.end) p) (left_behind (g.to_come p.tokens))
    (read (g.to_come p.tokens) (g.fault_to_come p.tokens) (states_in g p.state p) (directives_of p.directives))
alone_read g k w q p shown j h a n =
    leaves k (grammar.with_properties w q) (node_event (anchor_of p) (tag_of p) item.empty) (states_in g p.state p) (g.to_come p.tokens) (g.fault_to_come p.tokens) (directives_of p.directives) (directives_of p.directives) shown.next
    (behind_choice w q k false (joins_are g q p k a ∙ j) h)
    (node_settles g (Some q) item.empty q.from q.to p a n)
    ∙ ap (λ m. ahead (record { body = node_event (anchor_of p) (tag_of p) item.empty; start_mark = m; end_mark = q.to }) (left_behind (g.to_come p.tokens)) (read (g.to_come p.tokens) (g.fault_to_come p.tokens) (states_in g p.state p) (directives_of p.directives))) (sym a.from)
    ∙ ap (λ m. ahead (record { body = node_event (anchor_of p) (tag_of p) item.empty; start_mark = g.mark_of p.tokens p.event.start; end_mark = m }) (left_behind (g.to_come p.tokens)) (read (g.to_come p.tokens) (g.fault_to_come p.tokens) (states_in g p.state p) (directives_of p.directives))) (sym a.to)
