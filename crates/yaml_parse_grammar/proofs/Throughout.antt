-- What holds of all items: whatever holds of each part of a token holds of what the machine gives, of what it keeps, and of the events.
use Rattle.std.proofs.Common.{◌≡◌, ℕ, ℤ, Bool, true, false, List, [], ◌∷◌, ◌++◌, length, map, Option, Some, None, subst, append-nil, arith}
use Rattle.yaml_parse_grammar.proofs.Words.{yaml_mark_t, yaml_scalar_style_t, Token, TokenBody, type_of, no_token, Fault, yaml_version_directive_t, EventBody, TagDirective, Wants, Flow, Block, Root, Choice, Refuse, Take, Leave, Open, RawEvent, RawEventBody, Properties, Shape, node_at, State, Taken, Given, IsInner, Directives, Settled, refused, gave, noted, settle, settle_body, resolved, node_event, read_on, reading, choice_at, taken_at, documents_taken, content_taken, node_taken, left_at, Stands, Fed, stop, go, with_item, given_by, turn, feed, Outcome, finished, carry, run}
use Rattle.yaml_parse_model.specs.declared.yaml_encoding_t.{yaml_encoding_t}
use Rattle.yaml_parse_model.specs.declared.yaml_sequence_style_t.{yaml_sequence_style_t}
use Rattle.yaml_parse_model.specs.declared.yaml_mapping_style_t.{yaml_mapping_style_t}
use Rattle.yaml_parse_model.specs.scan_types.Tokens as token
use Rattle.yaml_parse_model.specs.Events as event
use Rattle.yaml_parse_grammar.specs.declared.name.Brackets.TheVariants as brackets
use Rattle.yaml_parse_grammar.specs.Items.{Tag}
use Rattle.yaml_parse_grammar.specs.Items as item
pub use Rattle.yaml_parse_grammar.specs.States.{AllAre}
use Rattle.yaml_parse_grammar.specs.States as state
use Rattle.yaml_parse_grammar.specs.Resolve.{Told, Reading, behind_event}
use Rattle.yaml_parse_grammar.specs.Machine.{tag_at}

-- ---- what is taken

-- What holds of each of two lists holds of both in a row.
pub all_over : (Q : State → Type 0) (xs ys : List State) → AllAre Q xs → AllAre Q ys
    → AllAre Q (xs ++ ys)
all_over Q [] ys h k = k
all_over Q (x ∷ xs) ys h k = (h.0, all_over Q xs ys h.1 k)

-- P of the item, and Q of the states above; what gives none leaves something open
abbrev pub AreTaken : (RawEventBody → Type 0) → (State → Type 0) → Taken → Type 0
AreTaken P Q x = Item x.item × AllAre Q x.above
  where
    Item : Option RawEvent → Type 0
    Item None = Stands x.above
    Item (Some i) = P i.body

-- a state within a document that holds no text
abbrev pub IsBare : State → Type 0
IsBare (state.with_properties w p) = ⊥
IsBare x = IsInner x

-- Within a document: of tokens T, of an anchor A, of a tag G, of items P, of states Q.
pub record Inner (T : TokenBody → Type 0) (A : Option (List ℕ) → Type 0) (G : Option Tag → Type 0)
    (P : RawEventBody → Type 0) (Q : State → Type 0) : Type 0 where
  pub unnamed : A None
  pub untagged : G None
  pub anchor : (name : List ℕ) → T (token.anchor name) → A (Some name)
  pub tag : (handle suffix : List ℕ) (m : yaml_mark_t) → T (token.tag handle suffix)
      → G (Some (tag_at handle suffix m))
  pub alias : (name : List ℕ) → T (token.alias name) → P (item.event (event.alias name))
  pub scalar : (a : Option (List ℕ)) (g : Option Tag) (v : List ℕ) (style : yaml_scalar_style_t)
      → A a → G g → T (token.scalar v style) → P (item.node a g (item.scalar v style))
  pub sequence : (a : Option (List ℕ)) (g : Option Tag) (style : yaml_sequence_style_t) → A a → G g
      → P (item.node a g (item.sequence style))
  pub mapping : (a : Option (List ℕ)) (g : Option Tag) (style : yaml_mapping_style_t) → A a → G g
      → P (item.node a g (item.mapping style))
  pub sequence_end : P (item.event event.sequence_end)
  pub mapping_end : P (item.event event.mapping_end)
  pub states : (x : State) → IsBare x → Q x
  pub properties : (w : Wants) (p : Properties) → A p.anchor → G p.tag
      → Q (state.with_properties w p)
  pub held : (w : Wants) (p : Properties) → Q (state.with_properties w p) → A p.anchor × G p.tag

abbrev AreOf : (Option (List ℕ) → Type 0) → (Option Tag → Type 0) → Option Properties → Type 0
AreOf A G None = A None × G None
AreOf A G (Some p) = A p.anchor × G p.tag

node_is : (A : Option (List ℕ) → Type 0) (G : Option Tag → Type 0) (P : RawEventBody → Type 0)
    (p : Option Properties) (s : Shape) (start end : yaml_mark_t) → AreOf A G p
    → ((a : Option (List ℕ)) (g : Option Tag) → A a → G g → P (item.node a g s))
    → P (node_at p s start end).body
node_is g k w p s start end h f = grind arith

on_others : (P : RawEventBody → Type 0) (Q : State → Type 0) (i : Option RawEvent)
    (xs ys : List State) → AreTaken P Q (record { item = i; above = xs }) → AllAre Q ys
    → AreTaken P Q (record { item = i; above = xs ++ ys })
on_others g w i xs ys h k = grind (arith, all_over)

module _ {T : TokenBody → Type 0} {A : Option (List ℕ) → Type 0} {G : Option Tag → Type 0} {P : RawEventBody → Type 0}
    {Q : State → Type 0} (r : Inner T A G P Q) where
  content_are : (w : Wants) (p : Option Properties) (start end : yaml_mark_t) (b : TokenBody)
      → AreOf A G p → T b → AreTaken P Q (content_taken w p start end b)
  content_are w p start end (token.scalar v style) h t = (node_is A G P p _ start end h (λ a g k l. r.scalar a g v style k l t), tt)
  content_are w p start end token.flow_sequence_start h t = (node_is A G P p _ start end h (λ a g. r.sequence a g _), (r.states _ tt, tt))
  content_are w p start end token.flow_mapping_start h t = (node_is A G P p _ start end h (λ a g. r.mapping a g _), (r.states _ tt, tt))
  content_are w p start end token.block_sequence_start h t = (node_is A G P p _ start end h (λ a g. r.sequence a g _), (r.states _ tt, tt))
  content_are w p start end token.block_mapping_start h t = (node_is A G P p _ start end h (λ a g. r.mapping a g _), (r.states _ tt, tt))
  content_are (Block (Some side)) p start end token.block_entry h t = (node_is A G P p _ start end h (λ a g. r.sequence a g _), (r.states _ tt, (r.states _ tt, tt)))
  content_are (Block None) p start end token.block_entry h t = (tt, (r.states _ tt, tt))
  content_are Flow p start end token.block_entry h t = (tt, (r.states _ tt, tt))
  content_are w p start end _ h t = (tt, (r.states _ tt, tt))

  node_are : (w : Wants) (start end : yaml_mark_t) (b : TokenBody) → T b
      → AreTaken P Q (node_taken w start end b)
  node_are w start end (token.alias name) t = (r.alias name t, tt)
  node_are w start end (token.anchor name) t = (tt, (r.properties w _ (r.anchor name t) r.untagged, tt))
  node_are w start end (token.tag handle suffix) t = (tt, (r.properties w _ r.unnamed (r.tag handle suffix start t), tt))
  node_are w start end b t = content_are w None start end b (r.unnamed, r.untagged) t

  inner_are_by : (x : State) (start end : yaml_mark_t) (b : TokenBody) → IsInner x → Q x → T b
      → AreTaken P Q (taken_at x (record { body = b; start_mark = start; end_mark = end }))
  inner_are_by (state.optional place before) start end b i q h = node_are _ start end b h
  inner_are_by (state.entries o) start end token.block_entry i q h = (tt, (r.states _ tt, (r.states _ tt, tt)))
  inner_are_by (state.entries o) start end _ i q h = (r.sequence_end, tt)
  inner_are_by (state.others side) start end b i q h = (tt, (r.states _ tt, (r.states _ tt, tt)))
  inner_are_by (state.pairs o) start end token.key i q h = (tt, (r.states _ tt, (r.states _ tt, (r.states _ tt, tt))))
  inner_are_by (state.pairs o) start end _ i q h = (r.mapping_end, tt)
  inner_are_by (state.colon place) start end b i q h = (tt, (r.states _ tt, tt))
  inner_are_by (state.with_properties w p) start end (token.anchor name) i q h = (tt, (r.properties w _ (r.anchor name h) (r.held w p q).1, tt))
  inner_are_by (state.with_properties w p) start end (token.tag handle suffix) i q h = (tt, (r.properties w _ (r.held w p q).0 (r.tag handle suffix start h), tt))
  inner_are_by (state.with_properties w p) start end b i q h = content_are w (Some p) start end b (r.held w p q) h
  inner_are_by (state.items brackets.Sequence o) start end token.key i q h = (r.mapping None None _ r.unnamed r.untagged, (r.states _ tt, (r.states _ tt, (r.states _ tt, (r.states _ tt, tt)))))
  inner_are_by (state.items brackets.Mapping o) start end token.key i q h = (tt, (r.states _ tt, (r.states _ tt, (r.states _ tt, tt))))
  inner_are_by (state.items brackets.Sequence o) start end token.flow_sequence_end i q h = (r.sequence_end, tt)
  inner_are_by (state.items brackets.Mapping o) start end token.flow_sequence_end i q h = (r.mapping_end, tt)
  inner_are_by (state.items brackets.Sequence o) start end token.flow_mapping_end i q h = (r.sequence_end, tt)
  inner_are_by (state.items brackets.Mapping o) start end token.flow_mapping_end i q h = (r.mapping_end, tt)
  inner_are_by (state.items brackets.Sequence o) start end b i q h = on_others P Q (node_taken Flow start end b).item (node_taken Flow start end b).above (state.more brackets.Sequence o ∷ []) (node_are Flow start end b h) (r.states _ tt, tt)
  inner_are_by (state.items brackets.Mapping o) start end b i q h = on_others P Q (node_taken Flow start end b).item (node_taken Flow start end b).above (state.lone ∷ state.more brackets.Mapping o ∷ []) (node_are Flow start end b h) (r.states _ tt, (r.states _ tt, tt))
  inner_are_by (state.more b o) start end token.flow_entry i q h = (tt, (r.states _ tt, tt))
  inner_are_by (state.more brackets.Sequence o) start end _ i q h = (r.sequence_end, tt)
  inner_are_by (state.more brackets.Mapping o) start end _ i q h = (r.mapping_end, tt)
  inner_are_by state.pair_end start end b i q h = (tt, (r.states _ tt, tt))
  inner_are_by state.lone start end b i q h = (tt, (r.states _ tt, tt))
  inner_are_by _ start end b i q h = absurd i

  -- Within a document what is taken is as the rules say.
  pub inner_are : (x : State) (t : Token) → IsInner x → Q x → T t.body → AreTaken P Q (taken_at x t)
  inner_are x t i q h = inner_are_by x t.start_mark t.end_mark t.body i q h

-- ---- over all tokens

-- any state that holds no text
abbrev pub IsTextless : State → Type 0
IsTextless (state.with_properties w p) = ⊥
IsTextless _ = Unit {0}

pub bare_textless : (x : State) → IsBare x → IsTextless x
bare_textless x h = grind arith

-- Outside of documents.
pub record Outer (T : TokenBody → Type 0) (A : Option (List ℕ) → Type 0) (G : Option Tag → Type 0)
    (P : RawEventBody → Type 0) (Q : State → Type 0) : Type 0 where
  pub inner : Inner T A G P Q
  pub empty : (a : Option (List ℕ)) (g : Option Tag) → A a → G g → P (item.node a g item.empty)
  pub start : (encoding : yaml_encoding_t) → P (item.event (event.stream_start encoding))
  pub end : P (item.event event.stream_end)
  pub version : (major minor : ℤ) → P (item.version_directive major minor)
  pub handle : (handle prefix : List ℕ) → T (token.tag_directive handle prefix)
      → P (item.tag_directive handle prefix)
  pub document : (implicit : Bool) → P (item.document implicit)
  pub document_end : (implicit : Bool) → P (item.event (event.document_end implicit))
  pub outer : (x : State) → IsTextless x → Q x
  pub none : T no_token.body

-- all items of a list
abbrev pub AllGive : (RawEventBody → Type 0) → List RawEvent → Type 0
AllGive P [] = Unit {0}
AllGive P (i ∷ is) = P i.body × AllGive P is

-- with the number of tokens that are not asked for
abbrev pub GivenAre : (RawEventBody → Type 0) → List Given → Type 0
GivenAre P [] = Unit {0}
GivenAre P (g ∷ gs) = P g.0.body × GivenAre P gs

abbrev pub Each : (TokenBody → Type 0) → List Token → Type 0
Each T [] = Unit {0}
Each T (t ∷ ts) = T t.body × Each T ts

abbrev pub FedAre : (RawEventBody → Type 0) → (State → Type 0) → Fed → Type 0
FedAre P Q (stop is f) = AllGive P is
FedAre P Q (go is s) = AllGive P is × AllAre Q s

fed_with : (P : RawEventBody → Type 0) (Q : State → Type 0) (i : RawEvent) (below : Fed) → P i.body
    → FedAre P Q below → FedAre P Q (with_item i below)
fed_with g w i below h k = grind arith

fed_by : (P : RawEventBody → Type 0) (Q : State → Type 0) (i : Option RawEvent)
    (above s : List State) → AreTaken P Q (record { item = i; above = above }) → AllAre Q s
    → FedAre P Q (given_by (record { item = i; above = above }) s)
fed_by g w i above s h k = grind (arith, all_over)

given_over : (P : RawEventBody → Type 0) (left : ℕ) (is : List RawEvent) (more : List Given)
    → AllGive P is → GivenAre P more
    → GivenAre P (map (λ (i : RawEvent). (i, left)) is ++ more)
given_over P left [] more h k = k
given_over P left (i ∷ is) more h k = (h.0, given_over P left is more h.1 k)

carried_are : (P : RawEventBody → Type 0) (Q : State → Type 0) (left : ℕ) (fed : Fed)
    (k : List State → Outcome) → FedAre P Q fed
    → ((s : List State) → AllAre Q s → GivenAre P (k s).items)
    → GivenAre P (carry left fed k).items
carried_are P Q left (stop is f) k h more = subst (GivenAre P) (append-nil _) (given_over P left is [] h tt)
carried_are P Q left (go is s) k h more = given_over P left is (k s).items h.0 (more s h.1)

module _ {T : TokenBody → Type 0} {A : Option (List ℕ) → Type 0} {G : Option Tag → Type 0} {P : RawEventBody → Type 0}
    {Q : State → Type 0} (r : Outer T A G P Q) where
  documents_are : (from start end : yaml_mark_t) (b : TokenBody) → T b
      → AreTaken P Q (documents_taken from start end b)
  documents_are from start end (token.version_directive major minor) t = (r.version major minor, (r.outer _ tt, tt))
  documents_are from start end (token.tag_directive handle prefix) t = (r.handle handle prefix t, (r.outer _ tt, tt))
  documents_are from start end token.document_start t = (r.document false, (r.outer _ tt, (r.outer _ tt, (r.outer _ tt, tt))))
  documents_are from start end token.stream_end t = (r.end, tt)
  documents_are from start end _ t = (tt, (r.outer _ tt, tt))

  taken_are_by : (x : State) (start end : yaml_mark_t) (b : TokenBody) → Q x → T b
      → AreTaken P Q (taken_at x (record { body = b; start_mark = start; end_mark = end }))
  taken_are_by state.stream start end (token.stream_start encoding) q h = (r.start encoding, (r.outer _ tt, tt))
  taken_are_by state.stream start end _ q h = (tt, (r.outer _ tt, tt))
  taken_are_by state.first start end b q h = documents_are start start end b h
  taken_are_by state.documents start end b q h = documents_are start start end b h
  taken_are_by (state.directives from) start end b q h = documents_are from start end b h
  taken_are_by state.document_end start end b q h = (r.document_end false, tt)
  taken_are_by x start end b q h = inner_are r.inner x (record { body = b; start_mark = start; end_mark = end }) tt q h

  -- What a state takes is as the rules say.
  pub taken_are : (x : State) (t : Token) → Q x → T t.body → AreTaken P Q (taken_at x t)
  taken_are x t q h = taken_are_by x t.start_mark t.end_mark t.body q h

  -- So is what it gives where it leaves.
  pub left_are : (x : State) (start : yaml_mark_t) → Q x → P (left_at x start).body
  left_are state.document_end start q = r.document_end true
  left_are (state.others side) start q = r.inner.sequence_end
  left_are (state.with_properties w p) start q =
      let (a, g) = r.inner.held w p q in r.empty p.anchor p.tag a g
  left_are state.pair_end start q = r.inner.mapping_end
  left_are _ start q = r.empty None None r.inner.unnamed r.inner.untagged

  turn_are : (c : Choice) (x : State) (t : Token) (s : List State) (below : Fed) → T t.body
      → AllAre Q (x ∷ s) → FedAre P Q below → FedAre P Q (turn c x t s below)
  turn_are (Refuse p o) x t s below h q k = tt
  turn_are Take x t s below h q k = fed_by P Q (taken_at x t).item (taken_at x t).above s (taken_are x t q.0 h) q.1
  turn_are Leave x t s below h q k = fed_with P Q (left_at x t.start_mark) below (left_are x t.start_mark q.0) k
  turn_are Open x t s below h q k =
      let start = state.optional Root t.start_mark in
      let rest = state.document_end ∷ state.documents ∷ s in
      fed_with P Q (item.item_at (item.document true) t.start_mark t.start_mark) (given_by (taken_at start t) rest) (r.document true)
      (fed_by P Q (taken_at start t).item (taken_at start t).above rest (taken_are start t (r.outer start tt) h) (r.outer _ tt, (r.outer _ tt, q.1)))

  pub feed_are : (s : List State) (t : Token) → T t.body → AllAre Q s → FedAre P Q (feed s t)
  unfolding feed
  feed_are [] t h q = (tt, tt)
  feed_are (x ∷ s) t h q = turn_are (choice_at x (type_of t.body)) x t s (feed s t) h q (feed_are s t h q.1)

  -- All items of a list of tokens are as the rules say.
  pub run_are : (ts : List Token) (s : List State) (f : Option Fault) → Each T ts → AllAre Q s
      → GivenAre P (run ts s f).items
  unfolding run
  run_are [] [] (Some e) h q = tt
  run_are [] (x ∷ s) (Some e) h q = tt
  run_are [] s None h q = carried_are P Q 0 (feed s no_token) (λ _. finished) (feed_are s no_token r.none q) (λ s' q'. tt)
  run_are (t ∷ ts) s f h q =
      carried_are P Q (length ts) (feed s t) (λ s'. run ts s' f) (feed_are s t h.0 q) (λ s' q'. run_are ts s' f h.1 q')

-- ---- settled

-- B of the event that an item settles to, if it does
abbrev pub SettlesTo : (EventBody → Type 0) → Settled → Type 0
SettlesTo B (refused f) = Unit {0}
SettlesTo B (gave body ds) = B body
SettlesTo B (noted ds) = Unit {0}

-- Of items P, of events B: whatever the tag comes to and whatever the directives are.
pub record Settling (P : RawEventBody → Type 0) (B : EventBody → Type 0) : Type 0 where
  pub whole : (body : EventBody) → P (item.event body) → B body
  pub document : (v : Option yaml_version_directive_t) (tags : List TagDirective) (implicit : Bool)
      → B (event.document_start v tags implicit)
  pub node : (a : Option (List ℕ)) (g : Option (List ℕ)) (s : Shape) → B (node_event a g s)

-- C of what an item settles to where no fault is met
abbrev pub Settles : (Settled → Type 0) → RawEventBody → Directives → Type 0
Settles C (item.event body) ds = C (gave body (behind_event body ds))
Settles C (item.version_directive x y) ds = C (noted
    (record { version = Some (record { major = x; minor = y }); tags = ds.tags }))
Settles C (item.tag_directive x y) ds = C (noted
    (record {
      version = ds.version;
      tags = ds.tags ++ (record { handle = x; prefix = y } ∷ []);
    }))
Settles C (item.document implicit) ds = C (gave
    (event.document_start ds.version ds.tags implicit) ds)
Settles C (item.node a None s) ds = C (gave (node_event a None s) ds)
Settles C (item.node a (Some tag) s) ds = (g : List ℕ)
    → resolved ds.tags tag.handle tag.suffix ≡ Some g → C (gave (node_event a (Some g) s) ds)

-- What holds of each fault holds of what an item settles to.
pub settled_by : (C : Settled → Type 0) → ((f : Fault) → C (refused f)) → (b : RawEventBody)
    (from : yaml_mark_t) (ds : Directives) → Settles C b ds → C (settle_body b from ds)
settled_by g r b from ds h = grind arith

-- What an item settles to is as the rules say.
pub settles : (P : RawEventBody → Type 0) (B : EventBody → Type 0) → Settling P B
    → (b : RawEventBody) (from : yaml_mark_t) (ds : Directives) → P b
    → SettlesTo B (settle_body b from ds)
settles g k r b from ds h = grind arith

abbrev pub EventsAre : (EventBody → Type 0) → List Told → Type 0
EventsAre B [] = Unit {0}
EventsAre B (t ∷ ts) = B t.0.body × EventsAre B ts

read_on_is : (B : EventBody → Type 0) (c : Settled) (g : Given) (k : Directives → Reading)
    → SettlesTo B c → ((ds : Directives) → EventsAre B (k ds).events)
    → EventsAre B (read_on c g.0 g.1 k).events
read_on_is w c g k h more = grind arith

-- All events are as the rules say, where the items are.
pub reading_is : (P : RawEventBody → Type 0) (B : EventBody → Type 0) → Settling P B
    → (gs : List Given) (f : Option Fault) (ds : Directives) → GivenAre P gs
    → EventsAre B (reading gs f ds).events
unfolding reading
reading_is P B r [] f ds h = tt
reading_is P B r (g ∷ gs) f ds h = read_on_is B (settle g.0 ds) g (λ ds'. reading gs f ds') (settles P B r g.0.body g.0.from ds h.0) (λ ds'. reading_is P B r gs f ds' h.1)
