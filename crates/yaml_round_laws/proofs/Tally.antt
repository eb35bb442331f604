-- What a text has at most depends on the events of a stream, their styles and flags aside: so on an input's content, in either form.
use Rattle.std.proofs.Common.{◌≡◌, ℕ, zero, suc, ◌+◌, ◌-◌, Bool, true, List, [], ◌∷◌, length, map, refl, sym, ap, ◌∙◌, arith, inl, inr}
use Rattle.yaml_round_laws.proofs.SizesWords.{untagged, cases_Bool, chars, yaml_encoding_t, EventBody, TagDirective, Settings, Event, emitter_event, document_start, document_end, alias, scalar, sequence_start, sequence_end, mapping_start, mapping_end, node_events, items_events, pairs_events, documents_events, stream_events, context_of, Node, Nodes, Pairs, Document, node_says, items_say, pairs_say, documents_say, stream_says, written_node, written_nodes, written_pairs, written_documents, ascii, text_bytes, properties_bytes, most_of_value, most_of_line, most_of_node, most_of_items, most_of_pairs, directives_bytes, most_of_documents, most_bytes}
use Rattle.yaml_round_content.specs.parse_model.Events as event
use Rattle.yaml_parse_grammar.specs.Resolve.{Told}
use Rattle.yaml_emit_layout.specs.Content as emit
use Rattle.yaml_round_content.specs.Normalize.{is_lone_mark, normalize_body}
use Rattle.yaml_round_content.specs.Content.{content_of}
use Rattle.yaml_round_content.specs.Events.{emitter_events, contents}
use Rattle.yaml_round_content.specs.Said.{tagged}
use Rattle.yaml_round_content.specs.Said as content

-- what an event takes, a line before each node and after each collection, where nodes are indented by n; of a document w besides
abbrev tally_of : Settings → ℕ → List TagDirective → ℕ → Event → ℕ
tally_of s w ds n (document_start o) = w + ascii s 34 + directives_bytes s o.directives
tally_of s w ds n (alias name) = most_of_line s (n - s.indent) + ascii s 3 + text_bytes s.encoding name
tally_of s w ds n (scalar x) = most_of_line s (n - s.indent) + properties_bytes (context_of s ds) x.anchor x.tag + ascii s 5 + most_of_value s n (chars x.value)
tally_of s w ds n (sequence_start q) = most_of_line s (n - s.indent) + properties_bytes (context_of s ds) q.anchor q.tag + ascii s 2
tally_of s w ds n sequence_end = most_of_line s (n - s.indent)
tally_of s w ds n (mapping_start q) = most_of_line s (n - s.indent) + properties_bytes (context_of s ds) q.anchor q.tag + ascii s 2
tally_of s w ds n mapping_end = most_of_line s (n - s.indent)
tally_of s w ds n _ = 0

-- the indentation of the next node
abbrev indent_behind : ℕ → ℕ → Event → ℕ
indent_behind i n (sequence_start q) = n + i
indent_behind i n sequence_end = n - i
indent_behind i n (mapping_start q) = n + i
indent_behind i n mapping_end = n - i
indent_behind i n _ = n

-- the directives of the document
abbrev directives_behind : List TagDirective → Event → List TagDirective
directives_behind ds (document_start o) = o.directives
directives_behind ds _ = ds

unfoldable tally : Settings → ℕ → List TagDirective → ℕ → List Event → ℕ
tally s w ds n [] = 0
tally s w ds n (e ∷ es) = tally_of s w ds n e + tally s w (directives_behind ds e) (indent_behind s.indent n e) es

back : (n i : ℕ) → (n + i) - i ≡ n
back n i = omega arith

-- after a collection the indentation is what it was
closed : (s : Settings) (w : ℕ) (ds : List TagDirective) (n : ℕ) (es : List Event)
    → most_of_line s ((n + s.indent) - s.indent) + tally s w ds ((n + s.indent) - s.indent) es
    ≡ most_of_line s n + tally s w ds n es
closed s w ds n es = ap (λ k. most_of_line s k + tally s w ds k es) (back n s.indent)

line_back : (s : Settings) (n : ℕ) → most_of_line s ((n + s.indent) - s.indent) ≡ most_of_line s n
line_back s n = ap (most_of_line s) (back n s.indent)

-- ---- of documents

mutual
  unfolding tally node_events items_events pairs_events most_of_node most_of_items most_of_pairs

  node_tally : (s : Settings) (w : ℕ) (ds : List TagDirective) (n : ℕ) (x : emit.Node)
      (es : List Event)
      → tally s w ds n (node_events x es)
      ≡ most_of_line s (n - s.indent) + most_of_node (context_of s ds) n x + tally s w ds n es
  node_tally s w ds n (emit.sequence_node q items) es = omega (arith, items_tally s w ds n items (sequence_end ∷ es), closed s w ds n es)
  node_tally s w ds n (emit.mapping_node q pairs) es = omega (arith, pairs_tally s w ds n pairs (mapping_end ∷ es), closed s w ds n es)
  node_tally s w ds n _ es = omega arith

  items_tally : (s : Settings) (w : ℕ) (ds : List TagDirective) (n : ℕ) (xs : emit.Nodes)
      (es : List Event)
      → most_of_line s n + tally s w ds (n + s.indent) (items_events xs es)
      ≡ most_of_items (context_of s ds) n xs + tally s w ds (n + s.indent) es
  items_tally s w ds n emit.no_nodes es = refl
  items_tally s w ds n (emit.node x xs) es =
      omega (arith, node_tally s w ds (n + s.indent) x (items_events xs es), line_back s n, items_tally s w ds n xs es)

  pairs_tally : (s : Settings) (w : ℕ) (ds : List TagDirective) (n : ℕ) (ps : emit.Pairs)
      (es : List Event)
      → most_of_line s n + tally s w ds (n + s.indent) (pairs_events ps es)
      ≡ most_of_pairs (context_of s ds) n ps + tally s w ds (n + s.indent) es
  pairs_tally s w ds n emit.no_pairs es = refl
  pairs_tally s w ds n (emit.pair k v ps) es =
      omega (arith, node_tally s w ds (n + s.indent) k (node_events v (pairs_events ps es)), node_tally s w ds (n + s.indent) v (pairs_events ps es), line_back s n, pairs_tally s w ds n ps es)

-- a line for each root
abbrev lines_of : Settings → ℕ → ℕ → ℕ
lines_of s w zero = 0
lines_of s w (suc k) = w + most_of_line s (s.indent - s.indent) + lines_of s w k

documents_tally : (s : Settings) (w : ℕ) (es : List TagDirective) (ds : List emit.Document)
    → tally s w es s.indent (documents_events ds)
    ≡ most_of_documents s ds + lines_of s w (length ds)
unfolding tally documents_events most_of_documents
documents_tally s w es [] = refl
documents_tally s w es (d ∷ ds) =
    omega (arith, node_tally s w d.opening.directives s.indent d.root (document_end d.implicit_end ∷ documents_events ds), documents_tally s w d.opening.directives ds)

stream_tally : (s : Settings) (w : ℕ) (x : yaml_encoding_t) (ds : List emit.Document)
    → tally s w [] s.indent (stream_events x ds) ≡ most_of_documents s ds + lines_of s w (length ds)
unfolding tally
stream_tally s w x ds = omega (arith, documents_tally s w [] ds)

-- ---- of what is said

mutual
  unfolding tally node_says items_say pairs_say most_of_node most_of_items most_of_pairs

  said_node : (s : Settings) (w : ℕ) (ds : List TagDirective) (n : ℕ) (x : Node)
      (es : List EventBody)
      → tally s w ds n (map emitter_event (node_says x es))
      ≡ most_of_line s (n - s.indent) + most_of_node (context_of s ds) n (written_node x) + tally s
      w ds n (map emitter_event es)
  said_node s w ds n (content.alias name) es = omega arith
  said_node s w ds n (content.scalar anchor (untagged plain) value) es = omega arith
  said_node s w ds n (content.scalar anchor (tagged t) value) es = omega arith
  said_node s w ds n (content.sequence anchor tag items) es = omega (arith, said_items s w ds n items (event.sequence_end ∷ es), closed s w ds n (map emitter_event es))
  said_node s w ds n (content.mapping anchor tag pairs) es = omega (arith, said_pairs s w ds n pairs (event.mapping_end ∷ es), closed s w ds n (map emitter_event es))

  said_items : (s : Settings) (w : ℕ) (ds : List TagDirective) (n : ℕ) (xs : Nodes)
      (es : List EventBody)
      → most_of_line s n + tally s w ds (n + s.indent) (map emitter_event (items_say xs es))
      ≡ most_of_items (context_of s ds) n (written_nodes xs) + tally s w ds (n + s.indent)
      (map emitter_event es)
  said_items s w ds n content.no_nodes es = refl
  said_items s w ds n (content.node x xs) es =
      omega (arith, said_node s w ds (n + s.indent) x (items_say xs es), line_back s n, said_items s w ds n xs es)

  said_pairs : (s : Settings) (w : ℕ) (ds : List TagDirective) (n : ℕ) (ps : Pairs)
      (es : List EventBody)
      → most_of_line s n + tally s w ds (n + s.indent) (map emitter_event (pairs_say ps es))
      ≡ most_of_pairs (context_of s ds) n (written_pairs ps) + tally s w ds (n + s.indent)
      (map emitter_event es)
  said_pairs s w ds n content.no_pairs es = refl
  said_pairs s w ds n (content.pair k v ps) es =
      omega (arith, said_node s w ds (n + s.indent) k (node_says v (pairs_say ps es)), said_node s w ds (n + s.indent) v (pairs_say ps es), line_back s n, said_pairs s w ds n ps es)

said_documents : (s : Settings) (w : ℕ) (es : List TagDirective) (c : List Document)
    → tally s w es s.indent (map emitter_event (documents_say c))
    ≡ most_of_documents s (written_documents c) + lines_of s w (length c)
unfolding tally documents_say most_of_documents
said_documents s w es [] = refl
said_documents s w es (d ∷ ds) =
    omega (arith, said_node s w d.directives s.indent d.root (event.document_end true ∷ documents_say ds), said_documents s w d.directives ds)

said_tally : (s : Settings) (w : ℕ) (c : List Document)
    → tally s w [] s.indent (map emitter_event (stream_says c))
    ≡ most_of_documents s (written_documents c) + lines_of s w (length c)
unfolding tally
said_tally s w c = omega (arith, said_documents s w [] c)

-- ---- flags and styles don't count

-- one event counts as another does, and so do those after them
record CountsAs (a b : Event) : Type 0 where
  same : (s : Settings) (w : ℕ) (ds : List TagDirective) (n : ℕ)
      → tally_of s w ds n a ≡ tally_of s w ds n b
  directives : (ds : List TagDirective) → directives_behind ds a ≡ directives_behind ds b
  indent : (i n : ℕ) → indent_behind i n a ≡ indent_behind i n b

content_counts : (ends : Bool) (b : EventBody)
    → CountsAs (emitter_event (normalize_body ends b))
    (emitter_event (content_of (normalize_body true b)))
content_counts ends (event.scalar anchor tag value plain quoted style) =
    elim (cases_Bool (is_lone_mark tag value)) [
      | inl e ↦ rw e (record { same = λ s w ds n. refl; directives = λ ds. refl; indent = λ i n. refl })
      | inr e ↦ rw e (record { same = λ s w ds n. refl; directives = λ ds. refl; indent = λ i n. refl })
    ]
content_counts ends _ = record { same = λ s w ds n. refl; directives = λ ds. refl; indent = λ i n. refl }

events_count : (s : Settings) (w : ℕ) (ends : Bool) (ds : List TagDirective) (n : ℕ)
    (es : List Told)
    → tally s w ds n (emitter_events ends es) ≡ tally s w ds n (map emitter_event (contents es))
unfolding tally
events_count s w ends ds n [] = refl
events_count s w ends ds n (t ∷ es) =
    let k = content_counts ends t.0.body in
    let a = emitter_event (normalize_body ends t.0.body) in
    let b = emitter_event (content_of (normalize_body true t.0.body)) in
    let here = k.same s w ds n in
    let more = events_count s w ends (directives_behind ds a) (indent_behind s.indent n a) es in
    let same : tally s w (directives_behind ds a) (indent_behind s.indent n a) (map emitter_event (contents es)) ≡ tally s w (directives_behind ds b) (indent_behind s.indent n b) (map emitter_event (contents es)) = rw (k.directives ds) (rw (k.indent s.indent n) refl) in
    omega (arith, here, more, same)

-- ---- equal streams

more_lines : (s : Settings) (k : ℕ) → lines_of s 1 k ≡ lines_of s 0 k + k
more_lines s zero = refl
more_lines s (suc k) = omega (arith, more_lines s k)

-- that many lines and documents on either side
without_lines : (s : Settings) (a b k l : ℕ) → ((w : ℕ) → a + lines_of s w k ≡ b + lines_of s w l)
    → a ≡ b
without_lines s a b k l same =
    let none : a + lines_of s 0 k ≡ b + lines_of s 0 l = same 0 in
    let one : a + lines_of s 1 k ≡ b + lines_of s 1 l = same 1 in
    let many : k ≡ l = omega (arith, none, one, more_lines s k, more_lines s l) in
    let lines : lines_of s 0 k ≡ lines_of s 0 l = ap (lines_of s 0) many in
    omega (arith, none, lines)

-- documents whose events say the content
pub tallies_agree : (s : Settings) (ends : Bool) (x : yaml_encoding_t) (ds : List emit.Document)
    (es : List Told) (c : List Document) → emitter_events ends es ≡ stream_events x ds
    → contents es ≡ stream_says c
    → most_bytes s ds ≡ most_bytes s (written_documents c)
tallies_agree s ends x ds es c e f =
    let k = without_lines s (most_of_documents s ds) (most_of_documents s (written_documents c)) (length ds) (length c)
    (λ w. sym (stream_tally s w x ds) ∙ ap (tally s w [] s.indent) (sym e) ∙ events_count s w ends [] s.indent es ∙ ap (λ (z : List EventBody). tally s w [] s.indent (map emitter_event z)) f ∙ said_tally s w c) in
    omega (arith, k)

-- and documents with the same events
pub tallies_same : (s : Settings) (x y : yaml_encoding_t) (ds es : List emit.Document)
    → stream_events x ds ≡ stream_events y es → most_bytes s ds ≡ most_bytes s es
tallies_same s x y ds es e =
    let k = without_lines s (most_of_documents s ds) (most_of_documents s es) (length ds) (length es) (λ w. sym (stream_tally s w x ds) ∙ ap (tally s w [] s.indent) e ∙ stream_tally s w y es) in
    omega (arith, k)
