-- The events that are read of a tree's nodes are those of its content with marks, styles and flags.
use Rattle.std.proofs.Common.{◌≡◌, ℕ, Bool, true, false, if◌then◌else◌, List, ◌∷◌, Option, Some, None, codes, refl, ap, ◌∙◌}
use Rattle.yaml_round_content.proofs.Words.{bytes_eq, yaml_mark_t, yaml_scalar_style_t, YAML_PLAIN_SCALAR_STYLE, Token, Fault, Event, Wants, Side, Site, Properties, Tag, Shape, item_at, node_at, Given, properties_of, items_maybe, Directives, Reading, read_on, reading, resolved, with_resolved, node_event, spanning, events, item_events, pair_events, in_full, tag_of, anchor_of, is_plain, begins, placed_scalar, placed_empty, placed_node, placed_content, placed_maybe, placed_colon, placed_items, placed_more_items, placed_parts, placed_more_parts, placed_entries, placed_others, placed_pairs, events_told, YAML_FLOW_MAPPING_STYLE, items_node, items_content, items_colon, items_items, items_more, items_entries, items_others, items_pairs, full_tag, is_untagged, ends_before, nothing_at, items_end, more_end, entries_end, pairs_end}
use Rattle.yaml_parse_model.specs.scan_model.declared.name.yaml_sequence_style_t.{yaml_sequence_style_t}
use Rattle.yaml_parse_model.specs.scan_model.declared.name.yaml_mapping_style_t.{yaml_mapping_style_t}
use Rattle.yaml_parse_model.specs.Events as event
use Rattle.yaml_emit_laws.specs.parse_grammar.declared.Brackets.TheVariants as brackets
use Rattle.yaml_emit_laws.specs.parse_grammar.Items as item
use Rattle.yaml_emit_laws.specs.parse_grammar.Trees as tree
use Rattle.yaml_emit_laws.specs.parse_grammar.Resolve as resolve
use Rattle.yaml_round_content.proofs.Saying.{full_is, not_none}

-- where the first reading has no fault, the second one has none, and the events of the first are those before the second's
pub record ReadsAs (R : List Event → List Event) (r q : Reading) : Type 0 where
  pub right : r.ending ≡ None → q.ending ≡ None
  pub reads : r.ending ≡ None → events_told r.events ≡ R (events_told q.events)

pub both : {R Q : List Event → List Event} {r q p : Reading} → ReadsAs R r q → ReadsAs Q q p
    → ReadsAs (λ es. R (Q es)) r p
both {R} a b = record { right = λ e. b.right (a.right e); reads = λ e. a.reads e ∙ ap (λ (es : List Event). R es) (b.reads (a.right e)) }

same : {R Q : List Event → List Event} {r q : Reading} → ((es : List Event) → R es ≡ Q es)
    → ReadsAs R r q → ReadsAs Q r q
same {q = q} p a = record { right = a.right; reads = λ e. a.reads e ∙ p (events_told q.events) }

-- ---- one event

same_plain : (style : yaml_scalar_style_t) → resolve.is_plain style ≡ is_plain style
same_plain YAML_PLAIN_SCALAR_STYLE = refl
same_plain _ = refl

plain_placed : (anchor : Option (List ℕ)) (value : List ℕ) (style : yaml_scalar_style_t)
    (from to : yaml_mark_t) (es : List Event) (b : Bool) → is_plain style ≡ b
    → spanning (event.scalar anchor None value b (if b then false else true) style) from to ∷ es
    ≡ events (placed_scalar anchor None value style from to) es
plain_placed anchor value style from to es true e = rw e refl
plain_placed anchor value style from to es false e = rw e refl

mark_placed : (anchor : Option (List ℕ)) (t value : List ℕ) (style : yaml_scalar_style_t)
    (from to : yaml_mark_t) (es : List Event) (b : Bool) → bytes_eq t (codes "!") ≡ b
    → spanning (if b then event.scalar anchor None value true false style else event.scalar anchor
    (Some t) value false false style) from to ∷ es
    ≡ events (placed_scalar anchor (Some t) value style from to) es
mark_placed anchor t value style from to es true e = rw e refl
mark_placed anchor t value style from to es false e = rw e refl

scalar_placed : (anchor tag : Option (List ℕ)) (value : List ℕ) (style : yaml_scalar_style_t)
    (from to : yaml_mark_t) (es : List Event)
    → spanning (node_event anchor tag (item.scalar value style)) from to ∷ es
    ≡ events (placed_scalar anchor tag value style from to) es
scalar_placed anchor None value style from to es =
    ap (λ (z : Bool). spanning (event.scalar anchor None value z (if z then false else true) style) from to ∷ es) (same_plain style) ∙ plain_placed anchor value style from to es (is_plain style) refl
scalar_placed anchor (Some t) value style from to es = mark_placed anchor t value style from to es (bytes_eq t (codes "!")) refl

empty_placed : (anchor tag : Option (List ℕ)) (from to : yaml_mark_t) (es : List Event)
    → spanning (node_event anchor tag item.empty) from to ∷ es
    ≡ events (placed_empty anchor tag from to) es
empty_placed anchor None from to es = refl
empty_placed anchor (Some t) from to es = refl

-- ---- one item

resolved_read : (o : Option (List ℕ)) (full : List ℕ) (anchor : Option (List ℕ)) (shape : Shape)
    (from to at : yaml_mark_t) (b : item.RawEventBody) (left : ℕ) (D : Directives)
    (k : Directives → Reading)
    → ((x : List ℕ) → o ≡ Some x → x ≡ full)
    → ReadsAs (λ es. spanning (node_event anchor (Some full) shape) from to ∷ es)
    (read_on (with_resolved o anchor shape from at D) (item_at b from to) left k) (k D)
resolved_read None full anchor shape from to at b left D k h = record { right = λ e. absurd (not_none _ e); reads = λ e. absurd (not_none _ e) }
resolved_read (Some x) full anchor shape from to at b left D k h = record {
  right = λ e. e;
  reads = λ e. ap (λ (z : List ℕ). spanning (node_event anchor (Some z) shape) from to ∷ events_told (k D).events) (h x refl);
}

node_read : (anchor : Option (List ℕ)) (t : Option Tag) (shape : Shape) (from to : yaml_mark_t)
    (left : ℕ) (gs : List Given) (f : Option Fault) (D : Directives)
    → ReadsAs (λ es. spanning (node_event anchor (full_tag D.tags t) shape) from to ∷ es)
    (reading ((item_at (item.node anchor t shape) from to, left) ∷ gs) f D) (reading gs f D)
unfolding reading
node_read anchor None shape from to left gs f D = record { right = λ e. e; reads = λ e. refl }
node_read anchor (Some t) shape from to left gs f D =
    resolved_read (resolved D.tags t.handle t.suffix) (in_full D.tags t.handle t.suffix) anchor shape from to t.mark (item.node anchor (Some t) shape) left D (λ d. reading gs f d)
    (λ x h. full_is D.tags t.handle t.suffix x h)

start_read : (p : Option Properties) (shape : Shape) (from to : yaml_mark_t) (left : ℕ)
    (gs : List Given) (f : Option Fault) (D : Directives)
    → ReadsAs (λ es. spanning (node_event (anchor_of p) (tag_of D.tags p) shape) (begins p from) to
    ∷ es) (reading ((node_at p shape from to, left) ∷ gs) f D) (reading gs f D)
start_read None shape from to left gs f D = node_read None None shape from to left gs f D
start_read (Some p) shape from to left gs f D = node_read p.anchor p.tag shape p.from to left gs f D

-- an event that has nothing to resolve
sequence_ended : (from to : yaml_mark_t) (left : ℕ) (gs : List Given) (f : Option Fault)
    (D : Directives)
    → ReadsAs (λ es. spanning event.sequence_end from to ∷ es)
    (reading ((item_at (item.event event.sequence_end) from to, left) ∷ gs) f D) (reading gs f D)
unfolding reading
sequence_ended from to left gs f D = record { right = λ e. e; reads = λ e. refl }

mapping_ended : (from to : yaml_mark_t) (left : ℕ) (gs : List Given) (f : Option Fault)
    (D : Directives)
    → ReadsAs (λ es. spanning event.mapping_end from to ∷ es)
    (reading ((item_at (item.event event.mapping_end) from to, left) ∷ gs) f D) (reading gs f D)
unfolding reading
mapping_ended from to left gs f D = record { right = λ e. e; reads = λ e. refl }

alias_read : (name : List ℕ) (from to : yaml_mark_t) (left : ℕ) (gs : List Given) (f : Option Fault)
    (D : Directives)
    → ReadsAs (λ es. spanning (event.alias name) from to ∷ es)
    (reading ((item_at (item.event (event.alias name)) from to, left) ∷ gs) f D) (reading gs f D)
unfolding reading
alias_read name from to left gs f D = record { right = λ e. e; reads = λ e. refl }

blank_read : (at : yaml_mark_t) (left : ℕ) (gs : List Given) (f : Option Fault) (D : Directives)
    → ReadsAs (λ es. events (nothing_at at) es) (reading ((item.blank at, left) ∷ gs) f D)
    (reading gs f D)
blank_read at left gs f D = same (λ es. empty_placed None None at at es) (node_read None None item.empty at at left gs f D)

missing_is : (tag : Option (List ℕ)) → resolve.is_missing tag ≡ is_untagged tag
missing_is None = refl
missing_is (Some t) = refl

-- the first event of a collection
sequence_read : (p : Option Properties) (style : yaml_sequence_style_t) (from to : yaml_mark_t)
    (left : ℕ) (gs : List Given) (f : Option Fault) (D : Directives)
    → ReadsAs (λ es. spanning (event.sequence_start (anchor_of p) (tag_of D.tags p)
    (is_untagged (tag_of D.tags p)) style) (begins p from) to ∷ es)
    (reading ((node_at p (item.sequence style) from to, left) ∷ gs) f D) (reading gs f D)
sequence_read p style from to left gs f D = same (λ es. ap (λ (b : Bool). spanning (event.sequence_start (anchor_of p) (tag_of D.tags p) b style) (begins p from) to ∷ es) (missing_is (tag_of D.tags p))) (start_read p (item.sequence style) from to left gs f D)

mapping_read : (p : Option Properties) (style : yaml_mapping_style_t) (from to : yaml_mark_t)
    (left : ℕ) (gs : List Given) (f : Option Fault) (D : Directives)
    → ReadsAs (λ es. spanning (event.mapping_start (anchor_of p) (tag_of D.tags p)
    (is_untagged (tag_of D.tags p)) style) (begins p from) to ∷ es)
    (reading ((node_at p (item.mapping style) from to, left) ∷ gs) f D) (reading gs f D)
mapping_read p style from to left gs f D = same (λ es. ap (λ (b : Bool). spanning (event.mapping_start (anchor_of p) (tag_of D.tags p) b style) (begins p from) to ∷ es) (missing_is (tag_of D.tags p))) (start_read p (item.mapping style) from to left gs f D)

-- ---- nodes

mutual
  pub node_reads : {w : Wants} (n : tree.Node w) (rest : List Token) (gs : List Given)
      (f : Option Fault) (D : Directives)
      → ReadsAs (λ es. events (placed_node D.tags n rest) es) (reading (items_node n rest gs) f D)
      (reading gs f D)
  node_reads (tree.alias s name) rest gs f D = alias_read name s.from s.to _ gs f D
  node_reads (tree.only_properties d) rest gs f D =
      same (λ es. empty_placed (properties_of d).anchor (full_tag D.tags (properties_of d).tag) (properties_of d).from (properties_of d).to es)
      (node_read (properties_of d).anchor (properties_of d).tag item.empty (properties_of d).from (properties_of d).to _ gs f D)
  node_reads (tree.with_properties d c) rest gs f D = content_reads c (Some (properties_of d)) rest gs f D
  node_reads (tree.bare c) rest gs f D = content_reads c None rest gs f D

  pub content_reads : {w : Wants} (c : tree.Content w) (p : Option Properties) (rest : List Token)
      (gs : List Given) (f : Option Fault) (D : Directives)
      → ReadsAs (λ es. events (placed_content D.tags p c rest) es)
      (reading (items_content c p rest gs) f D) (reading gs f D)
  content_reads (tree.scalar s value style) p rest gs f D =
      same (λ es. scalar_placed (anchor_of p) (tag_of D.tags p) value style (begins p s.from) s.to es) (start_read p (item.scalar value style) s.from s.to _ gs f D)
  content_reads (tree.flow brackets.Sequence s items) p rest gs f D = both (sequence_read p _ s.from s.to _ (items_items brackets.Sequence items rest gs) f D) (items_reads items rest gs f D)
  content_reads (tree.flow brackets.Mapping s items) p rest gs f D = both (mapping_read p _ s.from s.to _ (items_items brackets.Mapping items rest gs) f D) (parts_read items rest gs f D)
  content_reads (tree.block_sequence s entries) p rest gs f D = both (sequence_read p _ s.from s.to _ (items_entries entries rest gs) f D) (entries_read entries rest gs f D)
  content_reads (tree.block_mapping s pairs) p rest gs f D = both (mapping_read p _ s.from s.to _ (items_pairs pairs rest gs) f D) (pairs_read pairs rest gs f D)
  content_reads (tree.indentless s n others) p rest gs f D =
      both (sequence_read p _ s.from s.to _ _ f D) (both (maybe_reads n _ s.to _ (items_others _ others rest gs) f D) (others_read _ others rest gs f D))

  pub maybe_reads : {w : Wants} (m : tree.Maybe w) (place : Site) (before : yaml_mark_t)
      (rest : List Token) (gs : List Given) (f : Option Fault) (D : Directives)
      → ReadsAs (λ es. events (placed_maybe D.tags m place before rest) es)
      (reading (items_maybe m place before rest gs) f D) (reading gs f D)
  maybe_reads tree.left_out place before rest gs f D = blank_read _ _ gs f D
  maybe_reads (tree.there n) place before rest gs f D = node_reads n rest gs f D

  pub colon_reads : {w : Wants} (c : tree.Colon w) (place : Site) (rest : List Token)
      (gs : List Given) (f : Option Fault) (D : Directives)
      → ReadsAs (λ es. events (placed_colon D.tags c place rest) es)
      (reading (items_colon c place rest gs) f D) (reading gs f D)
  colon_reads tree.no_colon place rest gs f D = blank_read _ _ gs f D
  colon_reads (tree.colon s n) place rest gs f D = maybe_reads n place s.to rest gs f D

  pub items_reads : (i : tree.Items) (rest : List Token) (gs : List Given) (f : Option Fault)
      (D : Directives)
      → ReadsAs (λ es. item_events (placed_items D.tags i rest)
      (spanning event.sequence_end (items_end i).start_mark (items_end i).end_mark ∷ es))
      (reading (items_items brackets.Sequence i rest gs) f D) (reading gs f D)
  items_reads (tree.end_items s) rest gs f D = sequence_ended s.from s.to _ gs f D
  items_reads (tree.single n more) rest gs f D = both (node_reads n _ (items_more brackets.Sequence more rest gs) f D) (more_items_read more rest gs f D)
  items_reads (tree.pair s key value more) rest gs f D =
      both (node_read None None (item.mapping YAML_FLOW_MAPPING_STYLE) s.from s.to _ _ f D)
      (both (maybe_reads key _ s.to _ _ f D)
      (both (colon_reads value _ _ _ f D) (both (mapping_ended _ _ _ (items_more brackets.Sequence more rest gs) f D) (more_items_read more rest gs f D))))

  pub more_items_read : (m : tree.More) (rest : List Token) (gs : List Given) (f : Option Fault)
      (D : Directives)
      → ReadsAs (λ es. item_events (placed_more_items D.tags m rest)
      (spanning event.sequence_end (more_end m).start_mark (more_end m).end_mark ∷ es))
      (reading (items_more brackets.Sequence m rest gs) f D) (reading gs f D)
  more_items_read (tree.end_more s) rest gs f D = sequence_ended s.from s.to _ gs f D
  more_items_read (tree.comma s items) rest gs f D = items_reads items rest gs f D

  pub parts_read : (i : tree.Items) (rest : List Token) (gs : List Given) (f : Option Fault)
      (D : Directives)
      → ReadsAs (λ es. pair_events (placed_parts D.tags i rest)
      (spanning event.mapping_end (items_end i).start_mark (items_end i).end_mark ∷ es))
      (reading (items_items brackets.Mapping i rest gs) f D) (reading gs f D)
  parts_read (tree.end_items s) rest gs f D = mapping_ended s.from s.to _ gs f D
  parts_read (tree.single n more) rest gs f D = both (node_reads n _ _ f D) (both (blank_read _ _ (items_more brackets.Mapping more rest gs) f D) (more_parts_read more rest gs f D))
  parts_read (tree.pair s key value more) rest gs f D =
      both (maybe_reads key _ s.to _ _ f D) (both (colon_reads value _ _ (items_more brackets.Mapping more rest gs) f D) (more_parts_read more rest gs f D))

  pub more_parts_read : (m : tree.More) (rest : List Token) (gs : List Given) (f : Option Fault)
      (D : Directives)
      → ReadsAs (λ es. pair_events (placed_more_parts D.tags m rest)
      (spanning event.mapping_end (more_end m).start_mark (more_end m).end_mark ∷ es))
      (reading (items_more brackets.Mapping m rest gs) f D) (reading gs f D)
  more_parts_read (tree.end_more s) rest gs f D = mapping_ended s.from s.to _ gs f D
  more_parts_read (tree.comma s items) rest gs f D = parts_read items rest gs f D

  pub entries_read : (e : tree.Entries) (rest : List Token) (gs : List Given) (f : Option Fault)
      (D : Directives)
      → ReadsAs (λ es. item_events (placed_entries D.tags e rest)
      (spanning event.sequence_end (entries_end e).start_mark (entries_end e).end_mark ∷ es))
      (reading (items_entries e rest gs) f D) (reading gs f D)
  entries_read (tree.end_entries s) rest gs f D = sequence_ended s.from s.to _ gs f D
  entries_read (tree.entry s n entries) rest gs f D = both (maybe_reads n _ s.to _ (items_entries entries rest gs) f D) (entries_read entries rest gs f D)

  pub others_read : (side : Side) (o : tree.Others) (rest : List Token) (gs : List Given)
      (f : Option Fault) (D : Directives)
      → ReadsAs (λ es. item_events (placed_others D.tags side o rest)
      (spanning event.sequence_end (ends_before rest).start_mark (ends_before rest).end_mark ∷ es))
      (reading (items_others side o rest gs) f D) (reading gs f D)
  others_read side tree.no_others rest gs f D = sequence_ended _ _ _ gs f D
  others_read side (tree.other s n others) rest gs f D = both (maybe_reads n _ s.to _ (items_others side others rest gs) f D) (others_read side others rest gs f D)

  pub pairs_read : (p : tree.Pairs) (rest : List Token) (gs : List Given) (f : Option Fault)
      (D : Directives)
      → ReadsAs (λ es. pair_events (placed_pairs D.tags p rest)
      (spanning event.mapping_end (pairs_end p).start_mark (pairs_end p).end_mark ∷ es))
      (reading (items_pairs p rest gs) f D) (reading gs f D)
  pairs_read (tree.end_pairs s) rest gs f D = mapping_ended s.from s.to _ gs f D
  pairs_read (tree.block_pair s key value pairs) rest gs f D = both (maybe_reads key _ s.to _ _ f D) (both (colon_reads value _ _ (items_pairs pairs rest gs) f D) (pairs_read pairs rest gs f D))
