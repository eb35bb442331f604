-- Trees from the bodies of tokens.
use Rattle.std.proofs.Common.{◌≡◌, true, false, List, [], ◌∷◌, None, Bool, refl, sym, ap, ◌∙◌, subst}
use Rattle.yaml_round_laws.proofs.JsonWords.{Token, TokenBody, node_event, no_directives, gave, settle, Reading, reading, Scalar, Node, alias_node, scalar_node, sequence_node, mapping_node, Nodes, no_nodes, node, Pairs, Document, json_bodies, json_items, json_pairs, start_bodies, stop_bodies, document_bodies, token_bodies, Grown, event_bodies, parsed_of, adapted, without_fault}
use Rattle.yaml_round_content.specs.scan_types.Tokens as token
use Rattle.yaml_round_content.specs.parse_model.Events as event
use Rattle.yaml_parse_grammar.specs.declared.name.Wants.{Wants}
use Rattle.yaml_parse_grammar.specs.declared.name.Wants.TheVariants.{Flow, Block}
use Rattle.yaml_parse_grammar.specs.declared.name.Brackets.{Brackets}
use Rattle.yaml_parse_grammar.specs.declared.name.Brackets.TheVariants as brackets
use Rattle.yaml_parse_grammar.specs.Items as item
use Rattle.yaml_parse_grammar.specs.Trees.{opening, flow_shape, single, there, colon, Span, token_at, Given, spell_node, spell_ends, no_first, first}
use Rattle.yaml_parse_grammar.specs.Trees as trees
use Rattle.yaml_emit_layout.specs.Content.{no_pairs, pair}
use Rattle.yaml_round_content.proofs.Growing.{Reads, Filled, Followed, take, silent, also, grown, alias_grown, scalar_contained, dressed_named, bracketed, brackets_end, brackets_done, comma_follows}
use Rattle.yaml_round_laws.proofs.EventsRead.{json_reads, json_items_reads, json_pairs_reads, document_reads}
use Rattle.yaml_round_content.specs.parse_model.declared.yaml_encoding_t.{yaml_encoding_t}
use Rattle.yaml_parse_grammar.specs.TreeSteps.{items_node, items_ends, items_documents, items}
use Rattle.yaml_parse_grammar.specs.Machine.{Outcome}
use Rattle.yaml_parse_grammar.specs.Remaining.{reading_of}
use Rattle.yaml_parse_grammar.proofs.CompleteStream.{stream_runs}
use Rattle.yaml_round_content.proofs.ReadBackDocuments.{item_says, no_spans, ends_say}
use Rattle.yaml_round_content.proofs.Passing.{Spell, passes}
use Rattle.yaml_round_content.proofs.PrettyDocuments.{Ends, ends_by}
use Rattle.yaml_round_content.proofs.PrettyPassing.{comma_spells, start_spells}

abbrev NodeGrows : Node → Type 0
NodeGrows n = (w : Wants) (ts : List Token) (bs : List TokenBody) → token_bodies ts ≡ json_bodies n bs → Grown w [] (json_reads n) ts bs

abbrev ItemsFill : Nodes → Type 0
ItemsFill ns = (ts : List Token) (bs : List TokenBody) → token_bodies ts ≡ json_items true ns (token.flow_sequence_end ∷ bs) → Filled brackets.Sequence [] (λ es. json_items_reads ns (event.sequence_end ∷ es)) ts bs

abbrev ItemsFollow : Nodes → Type 0
ItemsFollow ns = (ts : List Token) (bs : List TokenBody) → token_bodies ts ≡ json_items false ns (token.flow_sequence_end ∷ bs) → Followed brackets.Sequence [] (λ es. json_items_reads ns (event.sequence_end ∷ es)) ts bs

abbrev PairsFill : Pairs → Type 0
PairsFill ps = (ts : List Token) (bs : List TokenBody) → token_bodies ts ≡ json_pairs true ps (token.flow_mapping_end ∷ bs) → Filled brackets.Mapping [] (λ es. json_pairs_reads ps (event.mapping_end ∷ es)) ts bs

abbrev PairsFollow : Pairs → Type 0
PairsFollow ps = (ts : List Token) (bs : List TokenBody) → token_bodies ts ≡ json_pairs false ps (token.flow_mapping_end ∷ bs) → Followed brackets.Mapping [] (λ es. json_pairs_reads ps (event.mapping_end ∷ es)) ts bs

-- ---- nodes

scalar_grows : (x : Scalar) → NodeGrows (scalar_node x)
unfolding json_bodies json_reads
scalar_grows x w ts bs e = dressed_named w [] None None tt (item.scalar x.value x.style) (λ es. es) (token.scalar x.value x.style ∷ bs) bs (scalar_contained w [] x.value x.style bs) ts e

collection_grows : (b : Brackets) (R : Reads) (inside : List TokenBody → List TokenBody)
    → ((ts : List Token) (bs : List TokenBody) → token_bodies ts ≡ inside bs → Filled b [] R ts bs)
    → (w : Wants) (ts : List Token) (bs : List TokenBody) → token_bodies ts ≡ opening b ∷ inside bs
    → Grown w [] (λ es. node_event None None (flow_shape b) ∷ R es) ts bs
collection_grows b R inside fill w ts bs e = dressed_named w [] None None tt (flow_shape b) R (opening b ∷ inside bs) bs (λ us x. bracketed b w [] R us (inside bs) bs (λ vs y. fill vs bs y) x) ts e

-- ---- items and pairs

item_fills : (x : Node) (xs : Nodes) → NodeGrows x → ItemsFollow xs → ItemsFill (node x xs)
unfolding json_items json_items_reads
item_fills x xs one others ts bs e =
    let n = one Flow ts (json_items false xs (token.flow_sequence_end ∷ bs)) e in
    let i = others n.rest bs n.left in
    record { tree = single n.tree i.tree; rest = i.rest; left = i.left; said = also (grown n) i.said }

pair_fills : (k v : Node) (ps : Pairs) → NodeGrows k → NodeGrows v → PairsFollow ps
    → PairsFill (pair k v ps)
unfolding json_pairs json_pairs_reads
pair_fills k v ps key value others ts bs e =
    let tail = json_pairs false ps (token.flow_mapping_end ∷ bs) in
    let q = take ts token.key (json_bodies k (token.value ∷ json_bodies v tail)) e in
    let a = key Flow q.rest (token.value ∷ json_bodies v tail) q.left in
    let c = take a.rest token.value (json_bodies v tail) a.left in
    let b = value Flow c.rest tail c.left in
    let i = others b.rest bs b.left in
    record { tree = trees.pair q.span (there a.tree) (colon c.span (there b.tree)) i.tree; rest = i.rest; left = i.left; said = also (silent [] q) (also (grown a) (also (silent [] c) (also (grown b) i.said))) }

mutual
  unfolding json_bodies json_reads json_items json_items_reads json_pairs json_pairs_reads

  pub node_grows : (n : Node) (w : Wants) (ts : List Token) (bs : List TokenBody)
      → token_bodies ts ≡ json_bodies n bs → Grown w [] (json_reads n) ts bs
  node_grows (alias_node name) = λ w ts bs e. alias_grown w [] name ts bs e
  node_grows (scalar_node x) = scalar_grows x
  node_grows (sequence_node q items) = collection_grows brackets.Sequence (λ es. json_items_reads items (event.sequence_end ∷ es)) (λ bs. json_items true items (token.flow_sequence_end ∷ bs)) (items_fill items)
  node_grows (mapping_node q pairs) = collection_grows brackets.Mapping (λ es. json_pairs_reads pairs (event.mapping_end ∷ es)) (λ bs. json_pairs true pairs (token.flow_mapping_end ∷ bs)) (pairs_fill pairs)

  items_fill : (ns : Nodes) → ItemsFill ns
  items_fill no_nodes = λ ts bs e. brackets_end brackets.Sequence [] ts bs e
  items_fill (node x xs) = item_fills x xs (node_grows x) (items_follow xs)

  items_follow : (ns : Nodes) → ItemsFollow ns
  items_follow no_nodes = λ ts bs e. brackets_done brackets.Sequence [] ts bs e
  items_follow (node x xs) = λ ts bs e. comma_follows brackets.Sequence [] (λ es. json_items_reads (node x xs) (event.sequence_end ∷ es)) (json_items true (node x xs) (token.flow_sequence_end ∷ bs)) bs (λ us. item_fills x xs (node_grows x) (items_follow xs) us bs) ts e

  pairs_fill : (ps : Pairs) → PairsFill ps
  pairs_fill no_pairs = λ ts bs e. brackets_end brackets.Mapping [] ts bs e
  pairs_fill (pair k v ps) = pair_fills k v ps (node_grows k) (node_grows v) (pairs_follow ps)

  pairs_follow : (ps : Pairs) → PairsFollow ps
  pairs_follow no_pairs = λ ts bs e. brackets_done brackets.Mapping [] ts bs e
  pairs_follow (pair k v ps) = λ ts bs e. comma_follows brackets.Mapping [] (λ es. json_pairs_reads (pair k v ps) (event.mapping_end ∷ es)) (json_pairs true (pair k v ps) (token.flow_mapping_end ∷ bs)) bs (λ us. pair_fills k v ps (node_grows k) (node_grows v) (pairs_follow ps) us bs) ts e

-- ==== Trees of documents.

-- the end of the document, and of the stream
record Stopped (implicit : Bool) (ts : List Token) : Type 0 where
  ends : List Span
  last : Span
  rest : List Token
  same : ts ≡ spell_ends ends (token_at token.stream_end last ∷ rest)
  flag : no_spans ends ≡ implicit

stopped : (implicit : Bool) (ts : List Token)
    → token_bodies ts ≡ stop_bodies implicit (token.stream_end ∷ []) → Stopped implicit ts
stopped true ts e = let t = take ts token.stream_end [] e in record { ends = []; last = t.span; rest = t.rest; same = t.same; flag = refl }
stopped false ts e =
    let d = take ts token.document_end (token.stream_end ∷ []) e in
    let t = take d.rest token.stream_end [] d.left in
    record { ends = d.span ∷ []; last = t.span; rest = t.rest; same = d.same ∙ ap (λ (y : List Token). token_at token.document_end d.span ∷ y) t.same; flag = refl }

-- what the end of a stream reads as
stream_ends : (last : Span) (rest : List Token)
    → (event_bodies (reading (items_documents (trees.end_stream last) rest) None no_directives)
    ≡ event.stream_end ∷ []) × ((reading (items_documents (trees.end_stream last) rest) None
    no_directives).ending ≡ None)
unfolding reading
stream_ends last rest = (refl, refl)

abbrev pub Parsed : yaml_encoding_t → Document → List Token → Type 0
Parsed x d ts = (event_bodies (parsed_of ts) ≡ event.stream_start x ∷ document_reads d) × ((parsed_of ts).ending ≡ None)

parsed_by : (x : yaml_encoding_t) (d : Document) (s : trees.Stream) (rest : List Token)
    (ts : List Token) → ts ≡ trees.spell s rest
    → Ends (reading (items s rest) None no_directives) (event.stream_start x ∷ document_reads d)
    → Parsed x d ts
parsed_by x d s rest ts same e =
    let whole : parsed_of ts ≡ reading (items s rest) None no_directives = ap (λ (y : List Token). parsed_of y) same ∙ ap (λ (o : Outcome). reading_of o no_directives) (stream_runs s rest None) in
    (ap (λ (r : Reading). event_bodies r) whole ∙ e.events, ap (λ (r : Reading). r.ending) whole ∙ e.ending)

-- a root, its document's end, and the stream's
record Rooted (d : Document) (ts : List Token) : Type 0 where
  tree : trees.Node (Block None)
  stop : List Span
  last : Span
  rest : List Token
  same : ts ≡ spell_node tree (spell_ends stop (token_at token.stream_end last ∷ rest))
  gives : let more = token_at token.stream_end last ∷ rest in
      Ends (reading (items_node tree (spell_ends stop more) (items_ends stop more (items_documents (trees.end_stream last) rest))) None no_directives) (json_reads d.root (event.document_end d.implicit_end ∷ event.stream_end ∷ []))

rooted : (d : Document) (ts : List Token)
    → token_bodies ts ≡ json_bodies d.root (stop_bodies d.implicit_end (token.stream_end ∷ []))
    → Rooted d ts
rooted d ts e =
    let n = node_grows d.root (Block None) ts (stop_bodies d.implicit_end (token.stream_end ∷ [])) e in
    let s = stopped d.implicit_end n.rest n.left in
    let more = token_at token.stream_end s.last ∷ s.rest in
    let end = items_documents (trees.end_stream s.last) s.rest in
    let (events, ending) = stream_ends s.last s.rest in
    let last : Ends (reading end None no_directives) (event.stream_end ∷ []) = record { events = events; ending = ending } in
    let behind = ends_by (λ es. event.document_end (no_spans s.ends) ∷ es) (reading (items_ends s.ends more end) None no_directives) (reading end None no_directives) (event.stream_end ∷ []) (ends_say s.ends more end None no_directives) last in
    let flagged : Ends (reading (items_ends s.ends more end) None no_directives) (event.document_end d.implicit_end ∷ event.stream_end ∷ []) =
    record { events = behind.events ∙ ap (λ (b : Bool). event.document_end b ∷ event.stream_end ∷ []) s.flag; ending = behind.ending } in
    record {
      tree = n.tree;
      stop = s.ends;
      last = s.last;
      rest = s.rest;
      same = n.same ∙ ap (λ (y : List Token). spell_node n.tree y) s.same;
      gives = ends_by (json_reads d.root) (reading (items_node n.tree (spell_ends s.ends more) (items_ends s.ends more end)) None no_directives) (reading (items_ends s.ends more end) None no_directives)
          (event.document_end d.implicit_end ∷ event.stream_end ∷ []) (n.gives (spell_ends s.ends more) (items_ends s.ends more end) None no_directives refl) flagged;
    }

-- what opens the stream and the document, before its root
begun : (x : yaml_encoding_t) (implicit : Bool) (d : Document) → d.opening.implicit ≡ implicit
    → (g h : Given) (root : List Given)
    → settle g.0 no_directives ≡ gave (event.stream_start x) no_directives
    → settle h.0 no_directives ≡ gave (event.document_start None [] implicit) no_directives
    → Ends (reading root None no_directives)
    (json_reads d.root (event.document_end d.implicit_end ∷ event.stream_end ∷ []))
    → Ends (reading (g ∷ h ∷ root) None no_directives) (event.stream_start x ∷ document_reads d)
begun x implicit d is g h root start opens e =
    let body = json_reads d.root (event.document_end d.implicit_end ∷ event.stream_end ∷ []) in
    let inner = ends_by (λ es. event.document_start None [] implicit ∷ es) (reading (h ∷ root) None no_directives) (reading root None no_directives) body
    (item_says h root None no_directives no_directives (event.document_start None [] implicit) opens) e in
    let whole = ends_by (λ es. event.stream_start x ∷ es) (reading (g ∷ h ∷ root) None no_directives) (reading (h ∷ root) None no_directives) (event.document_start None [] implicit ∷ body)
    (item_says g (h ∷ root) None no_directives no_directives (event.stream_start x) start) inner in
    record { events = whole.events ∙ ap (λ (b : Bool). event.stream_start x ∷ event.document_start None [] b ∷ body) (sym is); ending = whole.ending }

-- by whether it begins with `---`
started : (implicit : Bool) (x : yaml_encoding_t) (d : Document) → d.opening.implicit ≡ implicit
    → (ts : List Token)
    → token_bodies ts ≡ token.stream_start x
    ∷ start_bodies implicit (json_bodies d.root
    (stop_bodies d.implicit_end (token.stream_end ∷ []))) → Parsed x d ts
started true x d is ts e =
    let t = take ts (token.stream_start x) (json_bodies d.root (stop_bodies d.implicit_end (token.stream_end ∷ []))) e in
    let r = rooted d t.rest t.left in
    let s : trees.Stream = record { encoding = x; start = t.span; first = first r.tree r.stop; documents = trees.end_stream r.last } in
    let more = token_at token.stream_end r.last ∷ r.rest in
    let root = items_node r.tree (spell_ends r.stop more) (items_ends r.stop more (items_documents (trees.end_stream r.last) r.rest)) in
    let whole : Ends (reading (items s r.rest) None no_directives) (event.stream_start x ∷ document_reads d) = begun x true d is _ _ root refl refl r.gives in
    parsed_by x d s r.rest ts (t.same ∙ ap (λ (y : List Token). token_at (token.stream_start x) t.span ∷ y) r.same) whole
started false x d is ts e =
    let body = json_bodies d.root (stop_bodies d.implicit_end (token.stream_end ∷ [])) in
    let t = take ts (token.stream_start x) (token.document_start ∷ body) e in
    let u = take t.rest token.document_start body t.left in
    let r = rooted d u.rest u.left in
    let s : trees.Stream = record { encoding = x; start = t.span; first = no_first; documents = trees.document [] u.span (there r.tree) r.stop (trees.end_stream r.last) } in
    let more = token_at token.stream_end r.last ∷ r.rest in
    let root = items_node r.tree (spell_ends r.stop more) (items_ends r.stop more (items_documents (trees.end_stream r.last) r.rest)) in
    let whole : Ends (reading (items s r.rest) None no_directives) (event.stream_start x ∷ document_reads d) = begun x false d is _ _ root refl refl r.gives in
    parsed_by x d s r.rest ts
    (t.same ∙ ap (λ (y : List Token). token_at (token.stream_start x) t.span ∷ y) (u.same ∙ ap (λ (y : List Token). token_at token.document_start u.span ∷ y) r.same)) whole

pub tokens_parsed : (x : yaml_encoding_t) (d : Document) (ts : List Token)
    → token_bodies ts ≡ token.stream_start x ∷ document_bodies d → Parsed x d ts
tokens_parsed x d ts e = started d.opening.implicit x d refl ts e

-- ==== The bodies of documents shaped as JSON spell texts.

mutual
  unfolding json_bodies json_items json_pairs

  node_spells : (n : Node) (bs : List TokenBody) → Spell bs → Spell (json_bodies n bs)
  node_spells (sequence_node q items) bs s = (refl, items_spell true items (token.flow_sequence_end ∷ bs) (refl, s))
  node_spells (mapping_node q pairs) bs s = (refl, pairs_spell true pairs (token.flow_mapping_end ∷ bs) (refl, s))
  node_spells _ bs s = (refl, s)

  items_spell : (fresh : Bool) (ns : Nodes) (bs : List TokenBody) → Spell bs
      → Spell (json_items fresh ns bs)
  items_spell fresh no_nodes bs s = s
  items_spell fresh (node x xs) bs s = comma_spells fresh (json_bodies x (json_items false xs bs)) (node_spells x (json_items false xs bs) (items_spell false xs bs s))

  pairs_spell : (fresh : Bool) (ps : Pairs) (bs : List TokenBody) → Spell bs
      → Spell (json_pairs fresh ps bs)
  pairs_spell fresh no_pairs bs s = s
  pairs_spell fresh (pair k v ps) bs s =
      let behind = json_pairs false ps bs in
      let value = json_bodies v behind in
      comma_spells fresh (token.key ∷ json_bodies k (token.value ∷ value)) (refl, node_spells k (token.value ∷ value) (refl, node_spells v behind (pairs_spell false ps bs s)))

stop_spells : (implicit : Bool) (bs : List TokenBody) → Spell bs → Spell (stop_bodies implicit bs)
stop_spells true bs s = s
stop_spells false bs s = (refl, s)

document_spells : (d : Document) → Spell (document_bodies d)
document_spells d =
    let last = stop_bodies d.implicit_end (token.stream_end ∷ []) in
    start_spells d.opening.implicit (json_bodies d.root last) (node_spells d.root last (stop_spells d.implicit_end (token.stream_end ∷ []) (refl, tt)))

pub tokens_pass : (x : yaml_encoding_t) (d : Document) (ts : List Token)
    → token_bodies ts ≡ token.stream_start x ∷ document_bodies d
    → adapted (without_fault ts) ≡ without_fault ts
tokens_pass x d ts e = passes ts (subst Spell (sym e) (refl, document_spells d))
