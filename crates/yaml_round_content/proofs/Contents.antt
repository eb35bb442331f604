-- What the events say that are read of pretty text.
use Rattle.std.proofs.Common.{◌≡◌, ℕ, Bool, true, false, not, ◌&&◌, ◌||◌, ◌==◌, if◌then◌else◌, List, [], ◌∷◌, length, map, Option, Some, None, refl, ap, ◌∙◌, chars, arith}
use Rattle.yaml_round_content.proofs.PrettyWords.{nat_tests, false≢true, and-false, yaml_encoding_t, YAML_ANY_ENCODING, yaml_scalar_style_t, YAML_ANY_SEQUENCE_STYLE, YAML_ANY_MAPPING_STYLE, EventBody, Told, normalize_body, normalize_scalar, emitter_events, contents, Settings, Style, Allowed, allowed, taken, plain_fits, single_or, plain_or, Part, has, kept_if, kept_tag, scalar_tag, start_tag, Context, style_of, is_plain, is_simple, is_simple_part, key_part, are_none, are_no_pairs, IsNoMark, HasNoMark, HaveNoMark, PairsHaveNoMark, AreParsable, style_at, is_flow_at, style_named, takes_mark, scalar_reads, node_reads, items_reads, pairs_reads, documents_reads, HasScalarFlags, HasStartFlags, HasFlags, HaveFlags, PairsHaveFlags, HaveReaderFlags}
use Rattle.yaml_parse_model.specs.declared.yaml_scalar_style_t.TheVariants.{YAML_ANY_SCALAR_STYLE}
use Rattle.yaml_parse_model.specs.Events as event
use Rattle.yaml_round_content.specs.Content.{content_of, counts_as_plain}
use Rattle.yaml_emit_laws.specs.emit_layout.declared.Style.TheVariants as style
use Rattle.yaml_emit_laws.specs.emit_layout.declared.level.Part.TheVariants as part
use Rattle.yaml_emit_laws.specs.emit_layout.Content as emit
use Rattle.yaml_round_content.proofs.Saying.{no_mark}
-- `says` is what an emitter's event says
pub use Rattle.yaml_round_content.proofs.Trees.{core as says}

-- ---- what events say (as in `yaml_round_content`)

abbrev pub content : EventBody → EventBody
content b = content_of (normalize_body true b)

scalar_says : (lone : Bool) (anchor tag : Option (List ℕ)) (value : List ℕ) (plain quoted : Bool)
    (style : yaml_scalar_style_t)
    → content_of (normalize_scalar lone anchor tag value plain quoted style)
    ≡ says (emit.emitter_event (normalize_scalar lone anchor tag value plain quoted style))
scalar_says true anchor tag value plain quoted style = refl
scalar_says false anchor tag value plain quoted style = refl

event_says : (b : EventBody) → content b ≡ says (emit.emitter_event (normalize_body false b))
event_says b = grind (arith, nat_tests, scalar_says)

-- the content of events as an emitter sees them
pub contents_said : (es : List Told) → contents es ≡ map says (emitter_events false es)
contents_said [] = refl
contents_said (t ∷ ts) = ap (λ (b : EventBody). b ∷ contents ts) (event_says t.0.body) ∙ ap (λ (bs : List EventBody). says (emit.emitter_event (normalize_body false t.0.body)) ∷ bs) (contents_said ts)

-- Contents are those of the events' bodies.
pub contents_by : (es : List Told) → contents es ≡ map content (map (λ (g : Told). g.0.body) es)
contents_by [] = refl
contents_by (t ∷ ts) = ap (λ (bs : List EventBody). content t.0.body ∷ bs) (contents_by ts)

-- ---- the tag `!`

pub and_left : (a b : Bool) → (a && b) ≡ true → a ≡ true
and_left a b e = grind (arith, nat_tests, false≢true)

-- ---- styles: plain is taken where the scalar is tagged or plain-implicit

no_fit : (a : Allowed) (flow simple empty : Bool) → plain_fits a false flow simple empty ≡ false
no_fit a flow simple empty = grind (arith, nat_tests, and-false)

single_not_plain : (b : Bool) → is_plain (if b then style.Single else style.Double) ≡ false
single_not_plain b = grind (arith, nat_tests)

or_not_plain : (a : Allowed) (flow simple empty : Bool)
    → is_plain (plain_or a false flow simple empty) ≡ false
or_not_plain a flow simple empty = ap (λ (b : Bool). is_plain (if b then style.Plain else single_or a)) (no_fit a flow simple empty) ∙ single_not_plain a.single

block_not_plain : (b : Bool) (s : Style) → is_plain s ≡ false
    → is_plain (if b then s else style.Double) ≡ false
block_not_plain b s e = grind (arith, nat_tests)

taken_not_plain : (a : Allowed) (k : yaml_scalar_style_t) (flow simple empty : Bool)
    → is_plain (taken a k false flow simple empty) ≡ false
unfolding taken
taken_not_plain a k flow simple empty = grind (arith, nat_tests, single_not_plain, block_not_plain, or_not_plain)

style_by : (canonical untagged : Bool) (a : Allowed) (k : yaml_scalar_style_t)
    (flow simple empty : Bool) → untagged ≡ false
    → is_plain (if canonical then style.Double else taken a k untagged flow simple empty) ≡ false
style_by true untagged a k flow simple empty e = refl
style_by false untagged a k flow simple empty e = ap (λ (b : Bool). is_plain (taken a k b flow simple empty)) e ∙ taken_not_plain a k flow simple empty

-- a scalar whose tag isn't written and that isn't plain-implicit isn't plain
pub style_not_plain : (p : Context) (flow : Bool) (q : Part) (x : emit.Scalar)
    → (has (scalar_tag false x) || x.plain) ≡ false → is_plain (style_at p flow q x) ≡ false
unfolding style_of
style_not_plain p flow q x e = style_by p.settings.canonical (has (scalar_tag false x) || x.plain) (allowed p.settings.unicode (chars x.value)) x.style flow (is_simple_part q) (length x.value == 0) e

-- ---- scalars

kept_none : (b : Bool) → kept_if b None ≡ None
kept_none b = grind (arith, nat_tests)

-- it counts as plain exactly where it did
counts : (plain quoted : Bool) (s : Style) → quoted ≡ not plain
    → (plain ≡ false → is_plain s ≡ false) → (takes_mark quoted s || is_plain s) ≡ plain
counts true quoted s e h = ap (λ (q : Bool). takes_mark q s || is_plain s) e ∙ either (is_plain s)
  where
    either : (b : Bool) → (not b || b) ≡ true
    either true = refl
    either false = refl
counts false quoted s e h = ap (λ (q : Bool). takes_mark q s || is_plain s) e ∙ h refl

-- by the tag, and the one that is written
scalar_by : (anchor tag written : Option (List ℕ)) (value : List ℕ) (plain quoted : Bool)
    (s : Style) → HasScalarFlags tag plain quoted → IsNoMark tag
    → written ≡ kept_tag false (plain || quoted) tag
    → ((has written || plain) ≡ false → is_plain s ≡ false)
    → content (scalar_reads anchor written value (takes_mark quoted s) s)
    ≡ event.scalar anchor tag value (counts_as_plain tag plain) false YAML_ANY_SCALAR_STYLE
scalar_by anchor None written value plain quoted s flags fine w h =
    let none : written ≡ None = w ∙ kept_none (not (plain || quoted)) in
    let free : plain ≡ false → is_plain s ≡ false = λ e. h (ap (λ (o : Option (List ℕ)). has o || plain) none ∙ e) in
    ap (λ (o : Option (List ℕ)). content (scalar_reads anchor o value (takes_mark quoted s) s)) none ∙ (ap (λ (b : Bool). event.scalar anchor None value b false YAML_ANY_SCALAR_STYLE) (counts plain quoted s flags free))
scalar_by anchor (Some t) written value plain quoted s (p, q) fine w h =
    let some : written ≡ Some t = w ∙ ap (λ (b : Bool). kept_tag false (b || quoted) (Some t)) p ∙ ap (λ (b : Bool). kept_tag false b (Some t)) q in
    ap (λ (o : Option (List ℕ)). content (scalar_reads anchor o value (takes_mark quoted s) s)) some ∙ (ap (λ (b : Bool). content_of (normalize_scalar b anchor (Some t) value false false (style_named s))) (no_mark t value fine))

scalar_same : (p : Context) (flow : Bool) (q : Part) (x : emit.Scalar)
    → HasScalarFlags x.tag x.plain x.quoted → IsNoMark x.tag
    → content (scalar_reads x.anchor (scalar_tag false x) x.value
    (takes_mark x.quoted (style_at p flow q x)) (style_at p flow q x)) ≡ says (emit.scalar x)
scalar_same p flow q x flags fine = scalar_by x.anchor x.tag (scalar_tag false x) x.value x.plain x.quoted (style_at p flow q x) flags fine refl (style_not_plain p flow q x)

pub start_by : (tag : Option (List ℕ)) (implicit : Bool) → HasStartFlags tag implicit
    → kept_tag false implicit tag ≡ tag
start_by tag implicit h = grind (arith, nat_tests, kept_none)

-- ---- nodes

mutual
  unfolding node_reads items_reads pairs_reads emit.node_events emit.items_events emit.pairs_events

  node_same : (p : Context) (n : emit.Node) → HasFlags n → HasNoMark n
      → (flow : Bool) (q : Part) (es : List EventBody) (fs : List emit.Event)
      → map content es ≡ map says fs
      → map content (node_reads p flow q n es) ≡ map says (emit.node_events n fs)
  node_same p (emit.alias_node name) flags fine flow q es fs e = ap (λ (bs : List EventBody). event.alias name ∷ bs) e
  node_same p (emit.scalar_node x) flags fine flow q es fs e = ap (λ (b : EventBody). b ∷ map content es) (scalar_same p flow q x flags fine) ∙ ap (λ (bs : List EventBody). says (emit.scalar x) ∷ bs) e
  node_same p (emit.sequence_node o items) (start, flags) fine flow q es fs e =
      let inner = items_same p items flags fine (is_flow_at p flow o (are_none items)) (event.sequence_end ∷ es) (emit.sequence_end ∷ fs) (ap (λ (bs : List EventBody). event.sequence_end ∷ bs) e) in
      ap (λ (bs : List EventBody). event.sequence_start o.anchor (start_tag false o) true YAML_ANY_SEQUENCE_STYLE ∷ bs) inner
      ∙ ap (λ (t : Option (List ℕ)). event.sequence_start o.anchor t true YAML_ANY_SEQUENCE_STYLE ∷ map says (emit.items_events items (emit.sequence_end ∷ fs))) (start_by o.tag o.implicit start)
  node_same p (emit.mapping_node o pairs) (start, flags) fine flow q es fs e =
      let inner = pairs_same p pairs flags fine (is_flow_at p flow o (are_no_pairs pairs)) (event.mapping_end ∷ es) (emit.mapping_end ∷ fs) (ap (λ (bs : List EventBody). event.mapping_end ∷ bs) e) in
      ap (λ (bs : List EventBody). event.mapping_start o.anchor (start_tag false o) true YAML_ANY_MAPPING_STYLE ∷ bs) inner
      ∙ ap (λ (t : Option (List ℕ)). event.mapping_start o.anchor t true YAML_ANY_MAPPING_STYLE ∷ map says (emit.pairs_events pairs (emit.mapping_end ∷ fs))) (start_by o.tag o.implicit start)

  items_same : (p : Context) (ns : emit.Nodes) → HaveFlags ns → HaveNoMark ns
      → (flow : Bool) (es : List EventBody) (fs : List emit.Event) → map content es ≡ map says fs
      → map content (items_reads p flow ns es) ≡ map says (emit.items_events ns fs)
  items_same p emit.no_nodes flags fine flow es fs e = e
  items_same p (emit.node x xs) (f, flags) (g, fine) flow es fs e = node_same p x f g flow part.Item (items_reads p flow xs es) (emit.items_events xs fs) (items_same p xs flags fine flow es fs e)

  pairs_same : (p : Context) (ps : emit.Pairs) → PairsHaveFlags ps → PairsHaveNoMark ps
      → (flow : Bool) (es : List EventBody) (fs : List emit.Event) → map content es ≡ map says fs
      → map content (pairs_reads p flow ps es) ≡ map says (emit.pairs_events ps fs)
  pairs_same p emit.no_pairs flags fine flow es fs e = e
  pairs_same p (emit.pair k v ps) (fk, fv, flags) (gk, gv, fine) flow es fs e =
      node_same p k fk gk flow (key_part (is_simple p k)) (node_reads p flow part.Value v (pairs_reads p flow ps es)) (emit.node_events v (emit.pairs_events ps fs))
      (node_same p v fv gv flow part.Value (pairs_reads p flow ps es) (emit.pairs_events ps fs) (pairs_same p ps flags fine flow es fs e))

-- ---- documents

pub documents_same : (s : Settings) (fresh : Bool) (ds : List emit.Document) → HaveReaderFlags ds
    → AreParsable ds
    → map content (documents_reads s fresh ds) ≡ map says (emit.documents_events ds)
unfolding documents_reads emit.documents_events
documents_same s fresh [] flags fine = refl
documents_same s fresh (d ∷ ds) (f, flags) ((opening, g), fine) =
    ap (λ (bs : List EventBody). event.document_start d.opening.version d.opening.directives true ∷ bs)
    (node_same _ d.root f g false part.Item (event.document_end _ ∷ documents_reads s false ds) (emit.document_end d.implicit_end ∷ emit.documents_events ds)
    (ap (λ (bs : List EventBody). event.document_end true ∷ bs) (documents_same s false ds flags fine)))

-- What a pretty text reads as is the stream's content.
pub stream_same : (s : Settings) (x y : yaml_encoding_t) (ds : List emit.Document)
    → HaveReaderFlags ds → AreParsable ds
    → map content (event.stream_start y ∷ documents_reads s true ds)
    ≡ map says (emit.stream_events x ds)
stream_same s x y ds flags fine = ap (λ (bs : List EventBody). event.stream_start YAML_ANY_ENCODING ∷ bs) (documents_same s true ds flags fine)
