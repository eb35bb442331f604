-- From a bound on canonical text to the answers of a call.
use Rattle.std.proofs.lemmas.Bool.Decides.{nat_tests}
use Rattle.std.proofs.Common.{◌≡◌, inl, inr, ℕ, ◌+◌, ◌≤◌, ◌<◌, Bool, true, false, List, [], ◌∷◌, length, map, Ok, Err, refl, sym, ap, subst, ◌∙◌, arith}
use Rattle.yaml_round.specs.declared.yaml_encoding_t.{yaml_encoding_t}
use Rattle.yaml_round.specs.declared.yaml_encoding_t.TheVariants.{YAML_ANY_ENCODING}
use Rattle.yaml_round.specs.declared.yaml_output_encoding_t.{yaml_output_encoding_t}
use Rattle.yaml_round.specs.declared.yaml_output_encoding_t.TheVariants.{Utf8, Utf16Le, Utf16Be}
use Rattle.yaml_emit_laws.specs.scan_types.Faults.{Fault}
use Rattle.yaml_parse_grammar.specs.Resolve.{Told}
use Rattle.yaml_emit_layout.specs.Text.{Item, encode, is_deep}
use Rattle.yaml_emit_layout.specs.Settings.{settled, settled_encoding}
use Rattle.yaml_emit_layout.specs.declared.Encoding.{Encoding}
use Rattle.yaml_emit_layout.specs.declared.Settings.{Settings}
use Rattle.yaml_emit_layout.specs.Nodes.{Context, context_of, stream_layout}
use Rattle.yaml_emit_layout.specs.Layout.{written}
use Rattle.yaml_round.specs.parse_model.Documents as documents
use Rattle.yaml_round.specs.emit_graph.Graph.{graph_content}
use Rattle.yaml_round_content.specs.Normal.{ended}
use Rattle.yaml_round_engine.specs.Reload.{IsReloaded, IsDumped}
use Rattle.yaml_emit_machine.specs.Emitter.{Passes, write_error, too_deep}
use Rattle.yaml_round_content.specs.Said.{Document}
use Rattle.yaml_round_content.specs.Canon.{written_node, written_nodes, written_pairs, written_documents, canon_encoding, canonical_layout}
use Rattle.yaml_round_content.specs.Said as content
use Rattle.yaml_round_content.specs.Reading.{PlainReading}
use Rattle.yaml_round.specs.declared.yaml_settings_t.{yaml_settings_t}
use Rattle.yaml_round.specs.round_reading.Reading.{emitter_events}
use Rattle.yaml_round_engine.specs.Writing.{encoding_under, requested_under}
use Rattle.yaml_round_engine.specs.Answers.{IsReformatted, IsTooLong, IsPast}
use Rattle.yaml_round_engine.specs.Readable.{readable_layout, readable_text}
use Rattle.yaml_round_engine.proofs.Normal.{canonical_under}
use Rattle.yaml_round.proofs.Plain.{events_are}
use Rattle.yaml_round_content.proofs.Joining.{read_said}
use Rattle.yaml_round_content.proofs.ReadBack.{layout_is_of_input}
use Rattle.yaml_round_content.specs.Readable.{is_unmarked, readable_node, readable_nodes, readable_pairs, documents_from, readable_documents}
use Rattle.yaml_emit_laws.specs.Sizes.{most_of_node, most_of_items, most_of_pairs, most_of_documents, most_bytes}
use Rattle.yaml_emit_laws.proofs.SizesLaid.{by_content}
use Rattle.yaml_round_laws.specs.SizesLaws.{most_of_input}
use Rattle.yaml_round_laws.proofs.SizesJoining.{contents_bounded, layouts_short}
use Rattle.yaml_round_laws.proofs.Tally.{tallies_same}
use Rattle.yaml_round_laws.specs.Sizes.{most_of_answer, most_of_dumps, LimitsOfContentSuffice, ReformatsFit, NormalFormsFit, ReloadsFitDocuments}
use Rattle.yaml_round_laws.proofs.Limits.{read_once, loaded_once, same_loading}

not_columns : write_error ≡ too_deep → ⊥
not_columns e = let k : write_error.kind ≡ too_deep.kind = ap (λ (f : Fault). f.kind) e in absurd cc

past_size : (limit : ℕ) (bytes : List ℕ) (deep : Bool) → Passes limit bytes deep write_error
    → limit < length bytes
past_size limit bytes deep h3 = grind (arith, nat_tests, not_columns)

-- the text is the content's, and longer than the limit
text_passes : (from : yaml_encoding_t) (s : yaml_settings_t) (input : List ℕ) (c : List Document)
    → PlainReading from input (Ok c) → IsTooLong from input s true write_error
    → s.limit < length (canonical_layout (requested_under s true) c)
text_passes from s input c h k =
    let w = requested_under s true in
    let past = subst (λ (es : List Told). IsPast w s.limit (emitter_events true es) write_error) (events_are from input k.events k.of_input) k.past in
    let is = layout_is_of_input w (canonical_under s) from input c (read_said from input c h) past.encoding past.whole past.stream in
    let long : s.limit < length (encode past.encoding past.whole) = past_size s.limit (encode past.encoding past.whole) (is_deep past.whole) past.passes in
    let same : length (encode past.encoding past.whole) ≡ length (canonical_layout w c) = ap (λ (x : Encoding). length (encode x past.whole)) is.0 ∙ ap (λ (t : List Item). length (encode (canon_encoding w) t)) is.1 in
    omega (arith, long, same)

pub fits_content : LimitsOfContentSuffice
fits_content from s input c h few k =
    let long = text_passes from s input c h k in
    absurd (omega (arith, few, long, (by_content (settled (requested_under s true) YAML_ANY_ENCODING) (written_documents c))))

-- ---- by the input's length

-- the settings of a call set the encoding
coded : (x : yaml_output_encoding_t) (y : yaml_encoding_t)
    → settled_encoding (encoding_under x) y ≡ settled_encoding (encoding_under x) YAML_ANY_ENCODING
coded Utf8 y = refl
coded Utf16Le y = refl
coded Utf16Be y = refl

-- in either form
layout_fits : (from : yaml_encoding_t) (s : yaml_settings_t) (input : List ℕ) (c : List Document)
    (canonical : Bool) → PlainReading from input (Ok c)
    → IsTooLong from input s canonical write_error
    → s.limit < most_of_answer s from input
layout_fits from s input c canonical h k =
    let w = requested_under s canonical in
    let past = subst (λ (es : List Told). IsPast w s.limit (emitter_events canonical es) write_error) (events_are from input k.events k.of_input) k.past in
    let long : s.limit < length (encode past.encoding past.whole) = past_size s.limit (encode past.encoding past.whole) (is_deep past.whole) past.passes in
    let short : length (encode past.encoding past.whole) ≤ most_of_input w past.encoding from input = layouts_short from input c h w canonical past.encoding past.whole past.stream in
    let same : past.encoding ≡ canon_encoding (requested_under s true) = past.stream.coded ∙ coded s.encoding past.stream.encoding in
    let few : length (encode past.encoding past.whole) ≤ most_of_answer s from input = subst (λ (x : Encoding). length (encode past.encoding past.whole) ≤ most_of_input w x from input) same short in
    omega (arith, long, few)

not_past : (limit n : ℕ) → n ≤ limit → limit < n → ⊥
not_past limit n a b = absurd (omega (arith, a, b))

pub reformats : ReformatsFit
unfolding IsReformatted
reformats from s input c h few k =
    elim k [
      | inl q ↦ read_once from input c write_error h q
      | inr p ↦ elim p [
        | inl a ↦ not_past s.limit (most_of_answer s from input) few (layout_fits from s input c false h a.1)
        | inr b ↦ not_past s.limit (most_of_answer s from input) few (layout_fits from s input c true h b.1)
      ]
    ]

-- ---- normal forms

mutual
  unfolding most_of_node most_of_items most_of_pairs

  -- styles don't count
  readable_node_is : (p : Context) (n : ℕ) (starts : Bool) (x : content.Node)
      → most_of_node p n (readable_node starts x) ≡ most_of_node p n (written_node x)
  readable_node_is p n starts (content.alias name) = refl
  readable_node_is p n starts (content.scalar anchor (content.untagged plain) value) = refl
  readable_node_is p n starts (content.scalar anchor (content.tagged t) value) = refl
  readable_node_is p n starts (content.sequence anchor tag items) = omega (arith, readable_items_are p n items)
  readable_node_is p n starts (content.mapping anchor tag pairs) = omega (arith, readable_pairs_are p n pairs)

  readable_items_are : (p : Context) (n : ℕ) (xs : content.Nodes)
      → most_of_items p n (readable_nodes xs) ≡ most_of_items p n (written_nodes xs)
  readable_items_are p n content.no_nodes = refl
  readable_items_are p n (content.node x xs) = omega (arith, readable_node_is p (n + p.settings.indent) false x, readable_items_are p n xs)

  readable_pairs_are : (p : Context) (n : ℕ) (ps : content.Pairs)
      → most_of_pairs p n (readable_pairs ps) ≡ most_of_pairs p n (written_pairs ps)
  readable_pairs_are p n content.no_pairs = refl
  readable_pairs_are p n (content.pair k v ps) =
      omega (arith, readable_node_is p (n + p.settings.indent) false k, readable_node_is p (n + p.settings.indent) false v, readable_pairs_are p n ps)

documents_are : (s : Settings) (first : Bool) (c : List Document)
    → most_of_documents s (documents_from first c) ≡ most_of_documents s (written_documents c)
unfolding most_of_documents
documents_are s first [] = refl
documents_are s first (d ∷ ds) = omega (arith, readable_node_is (context_of s d.directives) s.indent (is_unmarked first d) d.root, documents_are s false ds)

readable_fits : (from : yaml_encoding_t) (s : yaml_settings_t) (input : List ℕ) (c : List Document)
    → PlainReading from input (Ok c) → length (readable_text s c) ≤ most_of_answer s from input
readable_fits from s input c h =
    let z = settled (requested_under s false) YAML_ANY_ENCODING in
    let a : length (readable_text s c) ≤ most_bytes z (readable_documents c) = by_content z (readable_documents c) in
    omega (arith, a, documents_are z true c, contents_bounded from input c h (requested_under s false))

pub normal_forms : NormalFormsFit
normal_forms from s input c h few k =
    elim k [
      | inl q ↦ read_once from input c write_error h q
      | inr p ↦ not_past s.limit (most_of_answer s from input) few (let long : s.limit < length (readable_text s p.content) = past_size s.limit (readable_text s p.content) (is_deep (readable_layout s p.content)) p.passes in omega (arith, long, readable_fits from s input p.content p.of_input))
    ]

-- ---- reloading

-- the mark of an end takes no more
ended_bytes : (z : Settings) (ds : List documents.Document)
    → most_of_documents z (map graph_content (ended ds))
    ≡ most_of_documents z (map graph_content ds)
unfolding most_of_documents
ended_bytes z [] = refl
ended_bytes z (d ∷ ds) = omega (arith, ended_bytes z ds)

dumped_long : (s : yaml_settings_t) (ds : List documents.Document) → IsDumped s ds (Err write_error)
    → s.limit < most_of_dumps s ds
dumped_long s ds k =
    let w = requested_under s true in
    let h = k.stream in
    let z = settled w h.encoding in
    let long : s.limit < length (encode k.encoding k.whole) = past_size s.limit (encode k.encoding k.whole) (is_deep k.whole) k.passes in
    let short : length (encode z.encoding (written (stream_layout z h.documents))) ≤ most_bytes z h.documents = by_content z h.documents in
    let same = tallies_same z h.encoding YAML_ANY_ENCODING h.documents (map graph_content (ended ds)) (sym h.same) in
    let is : most_bytes z (map graph_content ds) ≡ most_of_dumps s ds = ap (λ (y : Settings). most_bytes y (map graph_content ds)) (ap (λ (x : Encoding). record (settled (requested_under s true) YAML_ANY_ENCODING) { encoding = x }) (coded s.encoding h.encoding)) in
    let text : length (encode k.encoding k.whole) ≡ length (encode z.encoding (written (stream_layout z h.documents))) = ap (λ (x : Encoding). length (encode x k.whole)) h.coded ∙ ap (λ (t : List Item). length (encode z.encoding t)) h.is in
    omega (arith, long, text, short, same, ended_bytes z ds, is)

pub reloads_fit : ReloadsFitDocuments
unfolding IsReloaded
reloads_fit from s input ds h few k =
    elim k [
      | inl q ↦ loaded_once from input ds write_error h q
      | inr p ↦ not_past s.limit (most_of_dumps s ds) few (subst (λ (es : List documents.Document). s.limit < most_of_dumps s es) (same_loading from input ds p.documents h p.loading) (dumped_long s p.documents p.dumped))
    ]
