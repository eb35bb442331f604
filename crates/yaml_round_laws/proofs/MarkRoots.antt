-- What the first events of an input say of its tree.
use Rattle.std.proofs.Common.{◌≡◌, ℕ, ℤ, ◌==◌, ◌&&◌, not, if◌then◌else◌, Bool, true, false, List, [], ◌∷◌, ◌++◌, length, Option, Some, None, codes, refl, sym, ap, subst, ◌∙◌, inl, inr, arith, slice_index, option_map, bytes_eq}
use Rattle.std.proofs.lemmas.Bool.{cases_Bool}
use Rattle.std.proofs.lemmas.Bool.Decides.{nat_tests}
use Rattle.std.proofs.Math.Bool.{and-false}
use Rattle.yaml_round_content.specs.scan_model.declared.record.yaml_mark_t.{yaml_mark_t}
use Rattle.yaml_round_content.specs.scan_model.declared.name.yaml_scalar_style_t.{yaml_scalar_style_t}
use Rattle.yaml_round_content.specs.scan_model.declared.name.yaml_scalar_style_t.TheVariants.{YAML_PLAIN_SCALAR_STYLE}
use Rattle.yaml_round_content.specs.scan_model.declared.name.yaml_sequence_style_t.TheVariants.{YAML_FLOW_SEQUENCE_STYLE, YAML_BLOCK_SEQUENCE_STYLE}
use Rattle.yaml_round_content.specs.scan_model.declared.name.yaml_mapping_style_t.TheVariants.{YAML_FLOW_MAPPING_STYLE, YAML_BLOCK_MAPPING_STYLE}
use Rattle.yaml_round_content.specs.scan_model.declared.record.yaml_version_directive_t.{yaml_version_directive_t}
use Rattle.yaml_round_content.specs.scan_types.Tokens.{Token}
use Rattle.yaml_round.specs.parse_model.Events.{EventBody, TagDirective}
use Rattle.yaml_round.specs.parse_model.Events as event
use Rattle.yaml_parse_grammar.specs.declared.Wants.{Wants}
use Rattle.yaml_parse_grammar.specs.declared.Brackets.TheVariants as brackets
use Rattle.yaml_parse_grammar.specs.Items.{RawEvent, Properties, Tag, Shape, item_at}
use Rattle.yaml_parse_grammar.specs.Items as item
use Rattle.yaml_parse_grammar.specs.Trees.{Given, TagToken, properties_of, spell_ends, spell_content, spell_documents}
use Rattle.yaml_parse_grammar.specs.Trees as tree
use Rattle.yaml_parse_grammar.specs.TreeSteps.{items_node, items_content, items_directives, items_documents, items_first}
use Rattle.yaml_parse_grammar.specs.Resolve.{Directives, no_directives, Settled, refused, gave, noted, resolved, directive_for, with_resolved, with_tag, with_version, is_known_version, is_plain, node_event, Reading, read_on, reading}
use Rattle.yaml_scan_laws.specs.Spelled.{IsSome, AreSpelled}
use Rattle.yaml_round_content.specs.Adapted.{spells_text, cut}
use Rattle.yaml_scan_history.specs.Scanned.{scanned}
use Rattle.yaml_round_content.specs.Normalize.{is_lone_mark, normalize_scalar, normalize_body}
use Rattle.yaml_round_content.specs.Events.{emitter_events}
use Rattle.yaml_round_content.specs.Input.{tokens_of, events_of}
use Rattle.yaml_scan_laws.proofs.Inputs.{scanned_spelled}
use Rattle.yaml_round_content.proofs.Joining.{read_is, tree_read}
use Rattle.yaml_parse_laws_trees.proofs.Spelling.{spelled_before}
use Rattle.yaml_emit_layout.specs.Content as emit
use Rattle.yaml_emit_layout.specs.Content.{emitter_event}
use Rattle.yaml_emit_layout.specs.Grammar.{has}
use Rattle.yaml_emit_laws.specs.NodeBodies.{is_bare, is_empty}
use Rattle.yaml_round_content.specs.Flags.{is_asked_plain}
use Rattle.yaml_round_engine.specs.declared.beginning.Beginning.TheVariants as known
use Rattle.yaml_round_engine.specs.Beginning.{is_nothing_next, opens_with_nothing, nothing_comes}
use Rattle.yaml_round_engine.proofs.Starting.{from_start}
use Rattle.yaml_round_laws.specs.MarkAlone.{is_mark, is_mark_alone, is_mark_node, begins_with_mark, BeginningIsAMark}
use Rattle.yaml_round_laws.proofs.NoEmptyPlain.{AreFull, tokens_full}
use Rattle.yaml_round_content.proofs.Saying.{lone_is}

-- ---- one event

-- the event comes next, whatever follows
abbrev says : EventBody → Bool
says b = is_nothing_next (emitter_event (normalize_body false b) ∷ [])

whatever : (e : emit.Event) (es : List emit.Event)
    → is_nothing_next (e ∷ es) ≡ is_nothing_next (e ∷ [])
whatever emit.no_event es = refl
whatever _ es = refl

-- a value that is there where it may be plain
filled : (bare plain : Bool) (value : List ℕ) (style : yaml_scalar_style_t)
    → (is_asked_plain style ≡ true → is_empty value ≡ false)
    → (bare && (is_empty value && (plain && is_asked_plain style))) ≡ false
filled bare plain value style h =
    elim (cases_Bool (is_asked_plain style)) [
      | inl e ↦ rw (h e) (and-false bare)
      | inr e ↦ rw (e, and-false plain, and-false (is_empty value)) (and-false bare)
    ]

not_bare : (anchor : Option (List ℕ)) (tag : List ℕ) (more : Bool)
    → (is_bare anchor (Some tag) && more) ≡ false
not_bare None tag more = refl
not_bare (Some a) tag more = refl

tagged_scalar : (m : Bool) (anchor : Option (List ℕ)) (tag value : List ℕ)
    (style : yaml_scalar_style_t) → (is_asked_plain style ≡ true → is_empty value ≡ false)
    → is_nothing_next (emitter_event (normalize_scalar m anchor (Some tag) value false false style)
    ∷ []) ≡ false
tagged_scalar true anchor tag value style h = filled (is_bare anchor None) true value style h
tagged_scalar false anchor tag value style h = not_bare anchor tag (is_empty value && (false && is_asked_plain style))

marked_scalar : (b : Bool) (anchor : Option (List ℕ)) (tag value : List ℕ)
    (style : yaml_scalar_style_t) → (is_asked_plain style ≡ true → is_empty value ≡ false)
    → says (if b then event.scalar anchor None value true false style else event.scalar anchor
    (Some tag) value false false style) ≡ false
marked_scalar true anchor tag value style h = filled (is_bare anchor None) true value style h
marked_scalar false anchor tag value style h = tagged_scalar (is_lone_mark (Some tag) value) anchor tag value style h

-- a node with content
abbrev IsThere : Shape → Type 0
IsThere item.empty = ⊥
IsThere (item.scalar value style) = is_asked_plain style ≡ true → is_empty value ≡ false
IsThere (item.sequence style) = Unit {0}
IsThere (item.mapping style) = Unit {0}

there : (anchor tag : Option (List ℕ)) (shape : Shape) → IsThere shape
    → says (node_event anchor tag shape) ≡ false
there anchor tag item.empty h = absurd h
there anchor None (item.scalar value style) h = filled (is_bare anchor None) (is_plain style) value style h
there anchor (Some tag) (item.scalar value style) h = marked_scalar (bytes_eq tag (codes "!")) anchor tag value style h
there anchor tag (item.sequence style) h = refl
there anchor tag (item.mapping style) h = refl

-- ---- an empty node after its properties

empty_at : (m : Bool) (anchor : Option (List ℕ)) (tag : List ℕ)
    → is_nothing_next (emitter_event (normalize_scalar m anchor (Some tag) [] false false
    YAML_PLAIN_SCALAR_STYLE) ∷ []) ≡ (not (has anchor) && m)
empty_at true None tag = refl
empty_at true (Some a) tag = refl
empty_at false None tag = refl
empty_at false (Some a) tag = refl

empty_by : (m : Bool) (anchor : Option (List ℕ)) (tag : List ℕ) → is_lone_mark (Some tag) [] ≡ m
    → says (node_event anchor (Some tag) item.empty) ≡ (not (has anchor) && m)
empty_by m anchor tag e = ap (λ (b : Bool). is_nothing_next (emitter_event (normalize_scalar b anchor (Some tag) [] false false YAML_PLAIN_SCALAR_STYLE) ∷ [])) e ∙ empty_at m anchor tag

-- a tag of several characters is no lone mark
long_tag : (tag : List ℕ) → (length tag == 1) ≡ false → is_lone_mark (Some tag) [] ≡ false
long_tag tag e = ap (λ (b : Bool). (true && b) && slice_index tag 0 == 33) e

-- ---- settled

-- an item that gives an event, or is refused
gives : (b : EventBody) (ds : Directives) (i : RawEvent) (left : ℕ) (k : Directives → Reading)
    → is_nothing_next (emitter_events false (read_on (gave b ds) i left k).events) ≡ says b
gives b ds i left k = whatever (emitter_event (normalize_body false b)) (emitter_events false (k ds).events)

abbrev resolved_says : Option (List ℕ) → Option (List ℕ) → Shape → Bool
resolved_says None anchor shape = false
resolved_says (Some tag) anchor shape = says (node_event anchor (Some tag) shape)

abbrev node_says : Option (List ℕ) → Option Tag → Shape → Bool
node_says anchor None shape = says (node_event anchor None shape)
node_says anchor (Some t) shape = resolved_says (resolved [] t.handle t.suffix) anchor shape

resolves : (o anchor : Option (List ℕ)) (shape : Shape) (from at : yaml_mark_t) (i : RawEvent)
    (left : ℕ) (k : Directives → Reading)
    → is_nothing_next (emitter_events false
    (read_on (with_resolved o anchor shape from at no_directives) i left k).events)
    ≡ resolved_says o anchor shape
resolves None anchor shape from at i left k = refl
resolves (Some tag) anchor shape from at i left k = gives (node_event anchor (Some tag) shape) no_directives i left k

node_next : (anchor : Option (List ℕ)) (tag : Option Tag) (shape : Shape) (from to : yaml_mark_t)
    (left : ℕ) (gs : List Given)
    → is_nothing_next (emitter_events false
    (reading ((item_at (item.node anchor tag shape) from to, left) ∷ gs) None no_directives).events)
    ≡ node_says anchor tag shape
unfolding reading
node_next anchor None shape from to left gs = gives (node_event anchor None shape) no_directives (item_at (item.node anchor None shape) from to) left (λ ds. reading gs None ds)
node_next anchor (Some t) shape from to left gs = resolves (resolved [] t.handle t.suffix) anchor shape from t.mark (item_at (item.node anchor (Some t) shape) from to) left (λ ds. reading gs None ds)

resolved_there : (o anchor : Option (List ℕ)) (shape : Shape) → IsThere shape
    → resolved_says o anchor shape ≡ false
resolved_there None anchor shape h = refl
resolved_there (Some tag) anchor shape h = there anchor (Some tag) shape h

node_there : (anchor : Option (List ℕ)) (tag : Option Tag) (shape : Shape) → IsThere shape
    → node_says anchor tag shape ≡ false
node_there anchor None shape h = there anchor None shape h
node_there anchor (Some t) shape h = resolved_there (resolved [] t.handle t.suffix) anchor shape h

-- ---- a tag alone

abbrev alone : Option (List ℕ) → Option (List ℕ) → Bool
alone o anchor = resolved_says o anchor item.empty

anchored : (o : Option (List ℕ)) (a : List ℕ) → alone o (Some a) ≡ false
anchored None a = refl
anchored (Some tag) a = empty_by (is_lone_mark (Some tag) []) (Some a) tag refl

longest : (c d : ℕ) (bs : List ℕ) → (length (c ∷ d ∷ bs) == 1) ≡ false
longest c d bs = grind (arith, nat_tests)

longer : (c : ℕ) (suffix : List ℕ) → IsSome suffix → (length (c ∷ suffix) == 1) ≡ false
longer c [] h = absurd (cc)
longer c (b ∷ bs) h = longest c b bs

behind_handle : (o : Option (List ℕ)) (tag : List ℕ) → o ≡ Some tag → (length tag == 1) ≡ false
    → alone o None ≡ false
behind_handle o tag e h = rw e (empty_by false None tag (long_tag tag h))

by_default : (a b : Bool) (suffix : List ℕ) → IsSome suffix
    → alone (option_map (λ (prefix : List ℕ). prefix ++ suffix)
    (if a then Some (codes "!") else if b then Some (codes "tag:yaml.org,2002:") else None)) None
    ≡ false
by_default true b suffix h = behind_handle _ (33 ∷ suffix) refl (longer 33 suffix h)
by_default false true suffix h = behind_handle _ (codes "tag:yaml.org,2002:" ++ suffix) refl (longest 116 97 (codes "g:yaml.org,2002:" ++ suffix))
by_default false false suffix h = refl

tag_alone : (t : TagToken) → IsSome t.suffix
    → alone (resolved [] t.handle t.suffix) None ≡ is_mark t
unfolding directive_for
tag_alone t h = by t.handle t.suffix h
  where
    by : (handle suffix : List ℕ) → IsSome suffix
        → alone (resolved [] handle suffix) None
        ≡ is_mark (record { handle = handle; suffix = suffix; span = t.span })
    by [] suffix some = empty_by (bytes_eq suffix (codes "!")) None suffix (lone_is suffix)
    by (c ∷ cs) suffix some = by_default (bytes_eq (c ∷ cs) (codes "!")) (bytes_eq (c ∷ cs) (codes "!!")) suffix some

-- ---- the root

-- what its tokens are like
abbrev Told : List Token → Type 0
Told ts = AreFull ts × AreSpelled ts

shaped : (anchor : Option (List ℕ)) (tag : Option Tag) (shape : Shape) (from to : yaml_mark_t)
    (left : ℕ) (gs : List Given) → IsThere shape
    → is_nothing_next (emitter_events false
    (reading ((item_at (item.node anchor tag shape) from to, left) ∷ gs) None no_directives).events)
    ≡ false
shaped anchor tag shape from to left gs h = node_next anchor tag shape from to left gs ∙ node_there anchor tag shape h

bare_there : {w : Wants} (c : tree.Content w) (rest : List Token) → AreFull (spell_content c rest)
    → (more : List Given)
    → is_nothing_next (emitter_events false
    (reading (items_content c None rest more) None no_directives).events) ≡ false
bare_there (tree.scalar s value style) rest h more = shaped None None (item.scalar value style) s.from s.to _ _ h.0
bare_there (tree.flow brackets.Sequence s its) rest h more = shaped None None (item.sequence YAML_FLOW_SEQUENCE_STYLE) s.from s.to _ _ tt
bare_there (tree.flow brackets.Mapping s its) rest h more = shaped None None (item.mapping YAML_FLOW_MAPPING_STYLE) s.from s.to _ _ tt
bare_there (tree.block_sequence s es) rest h more = shaped None None (item.sequence YAML_BLOCK_SEQUENCE_STYLE) s.from s.to _ _ tt
bare_there (tree.block_mapping s ps) rest h more = shaped None None (item.mapping YAML_BLOCK_MAPPING_STYLE) s.from s.to _ _ tt
bare_there (tree.indentless s n more_items) rest h more = shaped None None (item.sequence YAML_BLOCK_SEQUENCE_STYLE) s.from s.to _ _ tt

dressed_there : {w : Wants} (p : Properties) (c : tree.Content w) (rest : List Token)
    → AreFull (spell_content c rest) → (more : List Given)
    → is_nothing_next (emitter_events false
    (reading (items_content c (Some p) rest more) None no_directives).events) ≡ false
dressed_there p (tree.scalar s value style) rest h more = shaped p.anchor p.tag (item.scalar value style) p.from s.to _ _ h.0
dressed_there p (tree.flow brackets.Sequence s its) rest h more = shaped p.anchor p.tag (item.sequence YAML_FLOW_SEQUENCE_STYLE) p.from s.to _ _ tt
dressed_there p (tree.flow brackets.Mapping s its) rest h more = shaped p.anchor p.tag (item.mapping YAML_FLOW_MAPPING_STYLE) p.from s.to _ _ tt
dressed_there p (tree.block_sequence s es) rest h more = shaped p.anchor p.tag (item.sequence YAML_BLOCK_SEQUENCE_STYLE) p.from s.to _ _ tt
dressed_there p (tree.block_mapping s ps) rest h more = shaped p.anchor p.tag (item.mapping YAML_BLOCK_MAPPING_STYLE) p.from s.to _ _ tt
dressed_there p (tree.indentless s n more_items) rest h more = shaped p.anchor p.tag (item.sequence YAML_BLOCK_SEQUENCE_STYLE) p.from s.to _ _ tt

behind_properties : (d : tree.PropertyTokens) (ts : List Token)
    → AreFull (tree.spell_properties d ts) → AreFull ts
behind_properties (tree.anchor a) ts h = h.1
behind_properties (tree.anchor_tag a t) ts h = h.1.1
behind_properties (tree.tag t) ts h = h.1
behind_properties (tree.tag_anchor t a) ts h = h.1.1

properties_said : (d : tree.PropertyTokens) (ts : List Token)
    → AreSpelled (tree.spell_properties d ts)
    → node_says (properties_of d).anchor (properties_of d).tag item.empty ≡ is_mark_alone d
properties_said (tree.anchor a) ts h = refl
properties_said (tree.anchor_tag a t) ts h = anchored (resolved [] t.handle t.suffix) a.name
properties_said (tree.tag t) ts h = tag_alone t h.0.1
properties_said (tree.tag_anchor t a) ts h = anchored (resolved [] t.handle t.suffix) a.name

root_next : {w : Wants} (n : tree.Node w) (rest : List Token) → Told (tree.spell_node n rest)
    → (more : List Given)
    → is_nothing_next (emitter_events false
    (reading (items_node n rest more) None no_directives).events) ≡ is_mark_node n
unfolding reading
root_next (tree.alias s name) rest h more = refl
root_next (tree.only_properties d) rest h more = node_next (properties_of d).anchor (properties_of d).tag item.empty (properties_of d).from (properties_of d).to _ more ∙ properties_said d rest h.1
root_next (tree.with_properties d c) rest h more = dressed_there (properties_of d) c rest (behind_properties d (spell_content c rest) h.0) more
root_next (tree.bare c) rest h more = bare_there c rest h.0 more

-- ---- a document with a `---`

abbrev IsQuiet : Settled → Type 0
IsQuiet (refused f) = Unit {0}
IsQuiet (gave b ds) = ⊥
IsQuiet (noted ds) = Unit {0}

quiet_on : (c : Settled) (i : RawEvent) (left : ℕ) (k : Directives → Reading) → IsQuiet c
    → ((ds : Directives) → opens_with_nothing (emitter_events false (k ds).events) ≡ false)
    → opens_with_nothing (emitter_events false (read_on c i left k).events) ≡ false
quiet_on (refused f) i left k h more = refl
quiet_on (gave b ds) i left k h more = absurd h
quiet_on (noted ds) i left k h more = more ds

known_quiet : (b : Bool) (ds : Directives) (f : _) → IsQuiet (if b then noted ds else refused f)
known_quiet true ds f = tt
known_quiet false ds f = tt

version_quiet : (o : Option yaml_version_directive_t) (tags : List TagDirective) (x y : ℤ)
    (at : yaml_mark_t) → IsQuiet (with_version o tags x y at)
version_quiet (Some v) tags x y at = tt
version_quiet None tags x y at = known_quiet (is_known_version x y) _ _

handle_quiet : (o : Option (List ℕ)) (ds : Directives) (handle prefix : List ℕ) (at : yaml_mark_t)
    → IsQuiet (with_tag o ds handle prefix at)
handle_quiet (Some other) ds handle prefix at = tt
handle_quiet None ds handle prefix at = tt

directed : (ds : List tree.Directive) (rest : List Token) (from to : yaml_mark_t) (left : ℕ)
    (gs : List Given) (d : Directives)
    → opens_with_nothing (emitter_events false
    (reading (items_directives ds rest ((item_at (item.document false) from to, left) ∷ gs)) None
    d).events) ≡ false
unfolding reading
directed [] rest from to left gs d = refl
directed (tree.version s x y ∷ ds) rest from to left gs d = quiet_on (with_version d.version d.tags x y s.from) _ _ _ (version_quiet d.version d.tags x y s.from) (λ e. directed ds rest from to left gs e)
directed (tree.handle s name prefix ∷ ds) rest from to left gs d = quiet_on (with_tag (directive_for name d.tags) d name prefix s.from) _ _ _ (handle_quiet (directive_for name d.tags) d name prefix s.from) (λ e. directed ds rest from to left gs e)

documents_open : (ds : tree.Documents) (rest : List Token)
    → opens_with_nothing (emitter_events false
    (reading (items_documents ds rest) None no_directives).events) ≡ false
unfolding reading
documents_open (tree.end_stream s) rest = refl
documents_open (tree.document ds s root ends more) rest = directed ds _ _ s.to _ _ no_directives

-- ---- the stream

first_opens : (f : tree.First) (docs : tree.Documents) (rest : List Token)
    → Told (tree.spell_first f (spell_documents docs rest))
    → opens_with_nothing (emitter_events false
    (reading (items_first f (spell_documents docs rest) (items_documents docs rest)) None
    no_directives).events) ≡ begins_with_mark f
unfolding reading
first_opens tree.no_first docs rest h = documents_open docs rest
first_opens (tree.first n ends) docs rest h = refl ∙ root_next n (spell_ends ends (spell_documents docs rest)) h _

-- ---- inputs

cut_spelled : (fault : Option _) (ts : List Token) → AreSpelled ts
    → AreSpelled (cut fault ts).tokens
cut_spelled fault [] h = tt
cut_spelled fault (t ∷ ts) h =
    elim (cases_Bool (spells_text t.body)) [
      | inl e ↦ rw e (h.0, cut_spelled fault ts h.1)
      | inr e ↦ rw e tt
    ]

pub mark : BeginningIsAMark
unfolding reading
mark from input b =
    let ts = (tokens_of from input).tokens in
    let own = (tokens_of from input).fault in
    let told : Told (tree.spell b.tree b.rest) = subst Told (b.same ∙ spelled_before b.tree b.rest) ((tokens_full from input, cut_spelled (scanned from input).fault (scanned from input).tokens (scanned_spelled from input))) in
    sym (from_start (emitter_events false (events_of from input)))
    ∙ ap (λ (r : Reading). nothing_comes known.Start (emitter_events false r.events)) (read_is from input ∙ tree_read ts own b)
    ∙ (refl ∙ first_opens b.tree.first b.tree.documents b.rest (told.0.1, told.1.1))
