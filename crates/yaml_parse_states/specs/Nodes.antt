-- What the functions of nodes do.
use Rattle.std.specs.Prelude.{◌≡◌, ◌⊎◌, ℕ, Bool, true, false, if◌then◌else◌, List, [], ◌∷◌, reverse, Option, Some, None}
use Rattle.yaml_parse_model.specs.declared.yaml_mark_t.{yaml_mark_t}
use Rattle.yaml_parse_model.specs.declared.yaml_scalar_style_t.{yaml_scalar_style_t}
use Rattle.yaml_parse_model.specs.scan_types.Tokens.{Token, TokenBody}
use Rattle.yaml_parse_model.specs.scan_types.Faults.{Fault, memory_fault}
use Rattle.yaml_parse_model.specs.declared.yaml_origin_t.TheVariants.{Parser as ParserLayer}
use Rattle.yaml_parse_model.specs.Source.{front_of}
use Rattle.yaml_parse_model.specs.Events.{Event, EventBody, TagDirective}
use Rattle.yaml_parse_model.specs.Events as event
use Rattle.yaml_parse_grammar.specs.declared.name.Wants.{Wants}
use Rattle.yaml_parse_grammar.specs.declared.name.Wants.TheVariants.{Flow, Block}
use Rattle.yaml_parse_grammar.specs.Items.{Properties, Shape, Tag}
use Rattle.yaml_parse_grammar.specs.Items as item
use Rattle.yaml_parse_grammar.specs.States as grammar
use Rattle.yaml_parse_grammar.specs.Machine.{starts_content, tag_at}
use Rattle.yaml_parse_grammar.specs.Resolve.{directive_for, is_missing, is_plain, node_event, or_default, resolved, scalar_event}
use Rattle.yaml_parse_grammar.specs.Resolve as resolve
use Rattle.yaml_scan_model.specs.declared.kind.Kind.{Kind}
use Rattle.yaml_scan_model.specs.declared.kind.Kind.TheVariants as token
use Rattle.yaml_scan_model.specs.Kinds.{type_by}
use Rattle.yaml_scan_model.specs.Shows.{IsNext, left_behind}
use Rattle.yaml_scan_model.specs.Texts.{name_in, handle_in, suffix_in, value_in, style_in}
use Rattle.yaml_scan_model.specs.declared.tokens.Tokens.{Ghosts}
use Rattle.yaml_parse_states.specs.declared.event.EventKind.{EventKind}
use Rattle.yaml_parse_states.specs.declared.event.EventKind.TheVariants as kind
use Rattle.yaml_parse_states.specs.declared.event.Slot.{Slot}
use Rattle.yaml_parse_states.specs.declared.parser.Parser.{Parser}
use Rattle.yaml_parse_states.specs.declared.parser.State.{State}
use Rattle.yaml_parse_states.specs.declared.parser.State.TheVariants as state
use Rattle.yaml_parse_states.specs.declared.parser.Turn.{Turn}
use Rattle.yaml_parse_states.specs.declared.parser.Turn.TheVariants as turn
use Rattle.yaml_parse_states.specs.Coming.{Coming, read, read_node}
use Rattle.yaml_parse_states.specs.Views.{body_in, directives_of, event_in, side_of, stack, text_if}
use Rattle.yaml_parse_states.specs.Turned.{GaveEvent, IsRefused, IsTaken, LacksMemory, Opens, Refuses}

-- which nodes may be there
abbrev pub wants_by : Turn → State → Wants
wants_by turn.FlowNode x = Flow
wants_by turn.IndentlessNode x = Block (Some (side_of x))
wants_by w x = Block None

-- an event was given, or a fault was reported
abbrev pub Found : {T P : Type 0} → Ghosts T P → Coming → Turn → Parser T P → Type 0
Found g was turn.Given new = GaveEvent g was new
Found g was turn.Refused new = IsRefused g was new ⊎ LacksMemory g was new
Found g was r new = ⊥

-- a token of that kind is next, and no other one was asked for
pub record IsShown {T P : Type 0} (g : Ghosts T P) (k : Kind) (t : T) : Type 0 where
  pub tells : g.tells t false
  pub next : IsNext k (g.to_come t)
  pub unasked : g.unasked t ≡ left_behind (g.to_come t)

-- ---- a node in the making

-- its anchor, and its tag in full
abbrev pub anchor_of : {T P : Type 0} → Parser T P → Option (List ℕ)
anchor_of p = text_if p.event.has_anchor p.anchor.items

abbrev pub tag_of : {T P : Type 0} → Parser T P → Option (List ℕ)
tag_of p = text_if p.event.has_tag p.tag.items

-- it begins without properties where the token that is next does
pub record Begins {T P : Type 0} (g : Ghosts T P) (old new : Parser T P) : Type 0 where
  pub same : new ≡ record old { event = new.event; undefined = None }
  pub start : g.mark_of old.tokens new.event.start ≡ (front_of (g.to_come old.tokens)).start_mark
  pub end : g.mark_of old.tokens new.event.end ≡ (front_of (g.to_come old.tokens)).start_mark
  pub anchor : new.event.has_anchor ≡ false
  pub tag : new.event.has_tag ≡ false

-- the tag in full, or where one starts whose handle is undefined
abbrev pub IsResolved : {T P : Type 0} → Ghosts T P → Tag → Option P → Parser T P → Type 0
IsResolved g t None p = resolved (directives_of p.directives).tags t.handle t.suffix
    ≡ Some p.tag.items
IsResolved g t (Some at) p = (resolved (directives_of p.directives).tags t.handle t.suffix ≡ None)
    × (t.mark ≡ g.mark_of p.tokens at)

abbrev pub IsTag : {T P : Type 0} → Ghosts T P → Option Tag → Parser T P → Type 0
IsTag g None p = (p.event.has_tag ≡ false) × (p.undefined ≡ None)
IsTag g (Some t) p = (p.event.has_tag ≡ true) × IsResolved g t p.undefined p

-- its properties are those
pub record AreProperties {T P : Type 0} (g : Ghosts T P) (q : Properties) (p : Parser T P) : Type 0
  where
    pub from : g.mark_of p.tokens p.event.start ≡ q.from
    pub to : g.mark_of p.tokens p.event.end ≡ q.to
    pub anchor : q.anchor ≡ anchor_of p
    pub tag : IsTag g q.tag p

pub record IsBare {T P : Type 0} (g : Ghosts T P) (p : Parser T P) : Type 0 where
  pub start : g.mark_of p.tokens p.event.start ≡ (front_of (g.to_come p.tokens)).start_mark
  pub anchor : p.event.has_anchor ≡ false
  pub tag : p.event.has_tag ≡ false

-- its content is next, after those properties or none
abbrev pub IsBegun : {T P : Type 0} → Ghosts T P → Option Properties → Parser T P → Type 0
IsBegun g None p = IsBare g p
IsBegun g (Some q) p = AreProperties g q p

-- what is to come then
abbrev pub begun_by : Wants → Option Properties → List Token → Option Fault → List grammar.State
    → resolve.Directives → Coming
begun_by w None ts f s ds = read_node w ts f s ds
begun_by w (Some q) ts f s ds = read ts f (grammar.with_properties w q ∷ s) ds

abbrev pub begun : {T P : Type 0} → Ghosts T P → Wants → Option Properties → Parser T P → Coming
begun g w q p = begun_by w q (g.to_come p.tokens) (g.fault_to_come p.tokens)
    (stack (g.mark_of p.tokens) p.state (reverse p.levels.items)) (directives_of p.directives)

-- ---- properties

-- a token of that kind is one that the node hasn't got
abbrev pub joins_in : {P : Type 0} → Kind → Slot P → Bool
joins_in token.Anchor s = if s.has_anchor then false else true
joins_in token.Tag s = if s.has_tag then false else true
joins_in k s = false

-- what a handle stands for, by a directive or by default; a verbatim tag has none
abbrev pub prefix_for : List TagDirective → List ℕ → Option (List ℕ)
prefix_for ds [] = Some []
prefix_for ds (c ∷ handle) = or_default (directive_for (c ∷ handle) ds) (c ∷ handle)

-- the tag in full is put down, or where one starts whose handle is undefined
abbrev pub PutsTag : {T P : Type 0} → Option (List ℕ) → P → Parser T P → Parser T P → Type 0
PutsTag None at old new = new.undefined ≡ Some at
PutsTag (Some full) at old new = (new.tag.items ≡ full) × (new.undefined ≡ old.undefined)

-- the tag that is next is put down so
abbrev pub TakesTag : {T P : Type 0} → Ghosts T P → Parser T P → Parser T P → Type 0
TakesTag g old new = old.undefined ≡ None → IsResolved g
    (tag_at (handle_in (front_of (g.to_come old.tokens)).body)
    (suffix_in (front_of (g.to_come old.tokens)).body)
    (front_of (g.to_come old.tokens)).start_mark) new.undefined new

-- the properties with the one that the token is
abbrev pub with_property : Kind → Token → Properties → Properties
with_property token.Anchor t q = record {
  anchor = Some (name_in t.body);
  tag = q.tag;
  from = q.from;
  to = t.end_mark;
}
with_property k t q = record {
  anchor = q.anchor;
  tag = Some (tag_at (handle_in t.body) (suffix_in t.body) t.start_mark);
  from = q.from;
  to = t.end_mark;
}

-- it is taken
pub record TakesProperty {T P : Type 0} (g : Ghosts T P) (k : Kind) (old new : Parser T P) : Type 0
  where
    pub same : new ≡ record old {
      tokens = new.tokens;
      event = new.event;
      anchor = new.anchor;
      tag = new.tag;
      undefined = new.undefined;
    }
    pub less : joins_in k new.event ≡ false
    pub others : (l : Kind) → joins_in l old.event ≡ false → joins_in l new.event ≡ false
    pub properties : (q : Properties) → AreProperties g q old
        → AreProperties g (with_property k (front_of (g.to_come old.tokens)) q) new

-- ---- contents

-- the event of a node of that shape, which ends there
abbrev pub node_told : {T P : Type 0} → Ghosts T P → Shape → yaml_mark_t → Parser T P → Event
node_told g shape to p = record {
  body = node_event (anchor_of p) (tag_of p) shape;
  start_mark = g.mark_of p.tokens p.event.start;
  end_mark = to;
}

abbrev pub scalar_shape : TokenBody → Shape
scalar_shape b = item.scalar (value_in b) (style_in b)

-- the scalar that is next is taken, and gives its event
pub record TakesScalar {T P : Type 0} (g : Ghosts T P) (old new : Parser T P) : Type 0 where
  pub same : new ≡ record old { tokens = new.tokens; event = new.event }
  pub token : IsTaken g old.tokens new.tokens
  pub event : event_in g new ≡ node_told g (scalar_shape (front_of (g.to_come old.tokens)).body)
      (front_of (g.to_come old.tokens)).end_mark old

-- whether a scalar's tag may be left out, and what is left of it
pub record Implies {T P : Type 0} (plain : Bool) (old new : Parser T P) : Type 0 where
  pub same : new ≡ record old {
    event = record old.event {
      has_tag = new.event.has_tag;
      implicit = new.event.implicit;
      quoted_implicit = new.event.quoted_implicit;
    };
  }
  pub event : (anchor : Option (List ℕ)) (value : List ℕ) (style : yaml_scalar_style_t)
      → is_plain style ≡ plain
      → event.scalar anchor (tag_of new) value new.event.implicit new.event.quoted_implicit style
      ≡ scalar_event anchor (tag_of old) value style

-- takes an alias
pub record TakesAlias {T P : Type 0} (g : Ghosts T P) (old new : Parser T P) : Type 0 where
  pub same : new ≡ record old { tokens = new.tokens; event = new.event }
  pub token : IsTaken g old.tokens new.tokens
  pub event : event_in g new ≡ record {
    body = event.alias (name_in (front_of (g.to_come old.tokens)).body);
    start_mark = (front_of (g.to_come old.tokens)).start_mark;
    end_mark = (front_of (g.to_come old.tokens)).end_mark;
  }

-- the slot of a collection that starts
abbrev pub collecting : {T P : Type 0} → EventKind → Bool → Parser T P → Slot P
collecting k flow p = record p.event {
  kind = k;
  has_value = false;
  flow = flow;
  implicit = is_missing (tag_of p);
}

-- its event
abbrev pub collection_told : {T P : Type 0} → Ghosts T P → EventKind → Bool → Parser T P
    → Parser T P
    → Event
collection_told g k flow old new = record {
  body = body_in (collecting k flow old) old.anchor.items old.tag.items (g.texts new.tokens)
      (directives_of old.directives);
  start_mark = g.mark_of old.tokens old.event.start;
  end_mark = (front_of (g.to_come old.tokens)).end_mark;
}

-- a collection opens with the token that is next, which isn't taken
pub record OpensWith {T P : Type 0} (g : Ghosts T P) (k : EventKind) (flow : Bool) (first : State)
    (old new : Parser T P) : Type 0 where
  pub same : new ≡ record old { state = first; levels = new.levels; event = new.event }
  pub opens : Opens g old new
  pub slot : new.event ≡ record (collecting k flow old) { end = new.event.end }
  pub end : g.mark_of old.tokens new.event.end ≡ (front_of (g.to_come old.tokens)).end_mark

-- or is
pub record Collects {T P : Type 0} (g : Ghosts T P) (k : EventKind) (flow : Bool) (first : State)
    (old new : Parser T P) : Type 0 where
  pub same : new ≡ record old {
    tokens = new.tokens;
    state = first;
    levels = new.levels;
    event = new.event;
  }
  pub token : IsTaken g old.tokens new.tokens
  pub opens : Opens g old new
  pub event : event_in g new ≡ collection_told g k flow old new

abbrev pub Collected : {T P : Type 0} → Ghosts T P → EventKind → Bool → State → Parser T P → Turn
    → Parser T P → Type 0
Collected g k flow first old turn.Given new = Collects g k flow first old new
Collected g k flow first old turn.Refused new = Refuses g (memory_fault ParserLayer) old new
Collected g k flow first old r new = ⊥

-- a sequence opens that isn't indented, whose first entry is next
abbrev pub Loosely : {T P : Type 0} → Ghosts T P → Parser T P → Turn → Parser T P → Type 0
Loosely g old turn.Given new = OpensWith g kind.SequenceStart false state.IndentlessSequenceEntry
    old new
Loosely g old turn.Refused new = Refuses g (memory_fault ParserLayer) old new
Loosely g old r new = ⊥

-- the content is taken that begins with a token of that kind, or none begins with it
abbrev pub Contents : {T P : Type 0} → Ghosts T P → Wants → Kind → Parser T P → Option Turn
    → Parser T P → Type 0
Contents g w k old None new = (new ≡ old) × (starts_content w (type_by k) ≡ false)
Contents g w k old (Some r) new = (q : Option Properties) → IsBegun g q old → old.undefined ≡ None
    → Found g (begun g w q old) r new
