-- From the columns that a layout passes to the answers of two calls.
use Rattle.std.proofs.Common.{◌≡◌, inl, inr, ℕ, Bool, true, true≢false, List, [], ◌∷◌, Option, Some, None, Result, Ok, Err, map, refl, sym, ap, subst, ◌∙◌}
use Rattle.std.proofs.lemmas.Bool.{false≢true}
use Rattle.yaml_round.specs.declared.yaml_encoding_t.{yaml_encoding_t}
use Rattle.yaml_round.specs.declared.yaml_encoding_t.TheVariants.{YAML_ANY_ENCODING}
use Rattle.yaml_emit_laws.specs.scan_types.Faults.{Fault}
use Rattle.yaml_round.specs.parse_model.Documents as documents
use Rattle.yaml_parse_grammar.specs.Resolve.{Told}
use Rattle.yaml_emit_layout.specs.Text.{Item, encode, is_deep}
use Rattle.yaml_emit_layout.specs.Settings.{settled, settled_indent}
use Rattle.yaml_emit_layout.specs.Content.{stream_events}
use Rattle.yaml_emit_layout.specs.Content as emit
use Rattle.yaml_emit_layout.specs.Streams.{IsStream}
use Rattle.yaml_emit_machine.specs.Emitter.{Passes, write_error, too_deep}
use Rattle.yaml_round.specs.emit_graph.Graph.{graph_content}
use Rattle.yaml_emit_layout.specs.declared.Encoding.{Encoding}
use Rattle.yaml_emit_layout.specs.declared.RequestedSettings.{RequestedSettings}
use Rattle.yaml_round_content.specs.Input.{events_of}
use Rattle.yaml_round_content.specs.Loads.{loads_of}
use Rattle.yaml_round_content.specs.Said.{Document}
use Rattle.yaml_round_content.specs.Canon.{written_documents, canon_items, canon_encoding}
use Rattle.yaml_round_content.specs.Reading.{PlainReading}
use Rattle.yaml_round_content.specs.PlainLoading.{PlainLoading, unless_faulty}
use Rattle.yaml_round_content.specs.DumpsEvents.{trees_of_dumps}
use Rattle.yaml_round_content.specs.Normal.{ended}
use Rattle.yaml_round.specs.declared.yaml_settings_t.{yaml_settings_t}
use Rattle.yaml_round.specs.round_reading.Reading.{emitter_events}
use Rattle.yaml_round_engine.specs.Writing.{requested_under}
use Rattle.yaml_round_engine.specs.Answers.{IsReformatted, IsFaulty, IsTooLong, IsPast}
use Rattle.yaml_round_engine.specs.Reload.{IsReloaded, IsDumped}
use Rattle.yaml_round_engine.proofs.Normal.{canonical_under, laid_of, text_fits}
use Rattle.yaml_round.proofs.Plain.{events_are, has_events}
use Rattle.yaml_round_content.proofs.Joining.{read_said, one_reading}
use Rattle.yaml_round_content.proofs.Loaded.{one_loading, loading_loads}
use Rattle.yaml_round_content.proofs.ReadBack.{layout_is_of_input}
use Rattle.yaml_round_content.proofs.Flags.{input_laid_out}
use Rattle.yaml_round_content.proofs.Layouts.{content_laid_out}
use Rattle.yaml_round_content.proofs.Laid.{laid_out}
use Rattle.yaml_emit_laws.specs.Depths.{RootStandsAt, IsTooDeep}
use Rattle.yaml_emit_laws.proofs.ColumnsDepths.{by_depth}
use Rattle.yaml_emit_laws.proofs.ColumnsEvents.{events_tell}
use Rattle.yaml_round_laws.specs.Limits.{IsContentTooDeep, AreDumpsTooDeep, CanonicalFormPassesColumns, ReformatsNameColumns, CanonicalAnswersKeepColumns, ReloadsNameColumns, ReloadsKeepColumns}
use Rattle.yaml_round_engine.proofs.Forms.{due_true}

-- ---- a fault that names the columns

not_size : too_deep ≡ write_error → ⊥
not_size e = let k : too_deep.kind ≡ write_error.kind = ap (λ (f : Fault). f.kind) e in absurd cc

past_columns : (limit : ℕ) (bytes : List ℕ) (deep : Bool) → Passes limit bytes deep too_deep
    → deep ≡ true
past_columns limit bytes deep (inl p) = absurd (not_size p.0)
past_columns limit bytes deep (inr p) = p.1

-- ---- a stream's layout

stream_deep : (w : RequestedSettings) → w.canonical ≡ true
    → (x : Encoding) (e : yaml_encoding_t) (ds : List emit.Document) (whole : List Item)
    → IsStream w x (stream_events e ds) whole
    → is_deep whole ≡ true → IsTooDeep (settled_indent w.indent) ds
stream_deep w canonical x e ds whole h deep =
    (events_tell h.encoding e h.documents ds (sym h.same) (settled_indent w.indent)).0
    ((by_depth (settled w h.encoding) canonical h.documents).0 (ap (λ (t : List Item). is_deep t) (sym h.is) ∙ deep))

deep_stream : (w : RequestedSettings) → w.canonical ≡ true
    → (x : Encoding) (e : yaml_encoding_t) (ds : List emit.Document) (whole : List Item)
    → IsStream w x (stream_events e ds) whole
    → IsTooDeep (settled_indent w.indent) ds → is_deep whole ≡ true
deep_stream w canonical x e ds whole h deep =
    ap (λ (t : List Item). is_deep t) h.is
    ∙ (by_depth (settled w h.encoding) canonical h.documents).1 ((events_tell h.encoding e h.documents ds (sym h.same) (settled_indent w.indent)).1 deep)

-- ---- rewriting

pub read_once : (from : yaml_encoding_t) (input : List ℕ) (c : List Document) (f : Fault)
    → PlainReading from input (Ok c) → IsFaulty from input f → ⊥
unfolding IsFaulty
read_once from input c f h k = let e : Ok c ≡ Err f = one_reading from input (Ok c) (Err f) h k in absurd cc

deep_content : (s : yaml_settings_t) (c : List Document) → IsContentTooDeep s c
    → is_deep (canon_items (requested_under s true) c) ≡ true
deep_content s c deep = (by_depth (settled (requested_under s true) YAML_ANY_ENCODING) refl (written_documents c)).1 deep

long_deep : (from : yaml_encoding_t) (s : yaml_settings_t) (input : List ℕ) (c : List Document)
    → PlainReading from input (Ok c) → IsTooLong from input s true too_deep → IsContentTooDeep s c
long_deep from s input c h k =
    let w = requested_under s true in
    let past = subst (λ (es : List Told). IsPast w s.limit (emitter_events true es) too_deep) (events_are from input k.events k.of_input) k.past in
    let is = (layout_is_of_input w (canonical_under s) from input c (read_said from input c h) past.encoding past.whole past.stream).1 in
    ((by_depth (settled (requested_under s true) YAML_ANY_ENCODING) refl (written_documents c)).0 (ap (λ (t : List Item). is_deep t) (sym is) ∙ past_columns s.limit (encode past.encoding past.whole) (is_deep past.whole) past.passes))

deep_long : (from : yaml_encoding_t) (s : yaml_settings_t) (input : List ℕ) (c : List Document)
    → PlainReading from input (Ok c) → IsContentTooDeep s c → IsTooLong from input s true too_deep
deep_long from s input c h deep =
    let w = requested_under s true in
    let said = read_said from input c h in
    record {
      events = events_of from input;
      of_input = has_events from input (events_of from input) said.right refl;
      past = record {
        encoding = canon_encoding w;
        whole = canon_items w c;
        stream = input_laid_out content_laid_out w (canonical_under s) from input c said;
        passes = inr (refl, deep_content s c deep);
      };
    }

pub form_passes : CanonicalFormPassesColumns
form_passes from s input c h = (λ k. long_deep from s input c h k, λ deep. deep_long from s input c h deep)

pub reformats : ReformatsNameColumns
unfolding IsReformatted
reformats from s input c h canonical = (
  λ k. elim k [
    | inl q ↦ absurd (read_once from input c too_deep h q)
    | inr p ↦ elim p [
      | inl a ↦ absurd (true≢false (sym canonical ∙ a.0))
      | inr b ↦ long_deep from s input c h b.1
    ]
  ],
  λ deep. inr (inr (due_true s.canonical from s input canonical, deep_long from s input c h deep)),
)

pub keeps : CanonicalAnswersKeepColumns
unfolding IsReformatted
keeps from s input text c h k deep =
    let fits = text_fits from input s c text (read_said from input c h) (laid_of from s input text true k.1.0) in
    false≢true (sym fits.columns ∙ (deep_content s c deep))

-- ---- reloading

pub loaded_once : (from : yaml_encoding_t) (input : List ℕ) (ds : List documents.Document)
    (f : Fault) → PlainLoading from input (Ok ds) → PlainLoading from input (Err f) → ⊥
loaded_once from input ds f h k = let e : Ok ds ≡ Err f = one_loading from input (Ok ds) (Err f) h k in absurd cc

same_ok : (r q : Result (List documents.Document) Fault) (ds es : List documents.Document)
    → r ≡ Ok ds → q ≡ Ok es → r ≡ q → ds ≡ es
same_ok r q ds es e f h = let k : Ok ds ≡ Ok es = sym e ∙ h ∙ f in cc

pub same_loading : (from : yaml_encoding_t) (input : List ℕ) (ds es : List documents.Document)
    → PlainLoading from input (Ok ds) → PlainLoading from input (Ok es) → es ≡ ds
same_loading from input ds es h k = same_ok (Ok es) (Ok ds) es ds refl refl (one_loading from input (Ok es) (Ok ds) k h)

unfaulty : (ds es : List documents.Document) (o : Option Fault) → unless_faulty ds o ≡ Ok es
    → ds ≡ es
unfaulty ds es None h = cc
unfaulty ds es (Some f) h = cc

loads_are : (from : yaml_encoding_t) (input : List ℕ) (ds : List documents.Document)
    → PlainLoading from input (Ok ds) → (loads_of from input).documents ≡ ds
loads_are from input ds h = unfaulty (loads_of from input).documents ds (loads_of from input).fault (loading_loads from input (Ok ds) h)

-- the mark of an end has no depth
ended_stands : (n : ℕ) (ds : List documents.Document)
    → RootStandsAt n (map graph_content (ended ds)) → RootStandsAt n (map graph_content ds)
unfolding RootStandsAt
ended_stands n [] h = h
ended_stands n (d ∷ ds) h = elim h [ inl x ↦ inl x | inr y ↦ inr (ended_stands n ds y) ]

stands_ended : (n : ℕ) (ds : List documents.Document) → RootStandsAt n (map graph_content ds)
    → RootStandsAt n (map graph_content (ended ds))
unfolding RootStandsAt
stands_ended n [] h = h
stands_ended n (d ∷ ds) h = elim h [ inl x ↦ inl x | inr y ↦ inr (stands_ended n ds y) ]

ended_deep : (k : ℕ) (ds : List documents.Document) → IsTooDeep k (map graph_content (ended ds))
    → IsTooDeep k (map graph_content ds)
ended_deep k ds t = record { depth = t.depth; stands = ended_stands t.depth ds t.stands; past = t.past }

deep_ended : (k : ℕ) (ds : List documents.Document) → IsTooDeep k (map graph_content ds)
    → IsTooDeep k (map graph_content (ended ds))
deep_ended k ds t = record { depth = t.depth; stands = stands_ended t.depth ds t.stands; past = t.past }

dumped_deep : (s : yaml_settings_t) (ds : List documents.Document) → IsDumped s ds (Err too_deep)
    → AreDumpsTooDeep s ds
dumped_deep s ds k =
    ended_deep (settled_indent s.indent) ds
    (stream_deep (requested_under s true) refl k.encoding YAML_ANY_ENCODING (map graph_content (ended ds)) k.whole k.stream (past_columns s.limit (encode k.encoding k.whole) (is_deep k.whole) k.passes))

deep_dumped : (from : yaml_encoding_t) (s : yaml_settings_t) (input : List ℕ)
    → AreDumpsTooDeep s (loads_of from input).documents
    → IsDumped s (loads_of from input).documents (Err too_deep)
deep_dumped from s input deep =
    let w = requested_under s true in
    let ds = (loads_of from input).documents in
    let whole = canon_items w (trees_of_dumps ds) in
    let stream = laid_out w (canonical_under s) from input in
    record { encoding = canon_encoding w; whole = whole; stream = stream; passes = inr (refl, deep_stream w refl (canon_encoding w) YAML_ANY_ENCODING (map graph_content (ended ds)) whole stream (deep_ended (settled_indent s.indent) ds deep)) }

pub reloads : ReloadsNameColumns
unfolding IsReloaded
reloads from s input ds h = (
  λ k. elim k [
    | inl q ↦ absurd (loaded_once from input ds too_deep h q)
    | inr p ↦ subst (λ (es : List documents.Document). AreDumpsTooDeep s es) (same_loading from input ds p.documents h p.loading) (dumped_deep s p.documents p.dumped)
  ],
  λ deep. inr (record {
    documents = ds;
    loading = h;
    dumped = subst (λ (es : List documents.Document). IsDumped s es (Err too_deep)) (loads_are from input ds h)
        (deep_dumped from s input (subst (λ (es : List documents.Document). AreDumpsTooDeep s es) (sym (loads_are from input ds h)) deep));
  }),
)

laid_shallow : (s : yaml_settings_t) (ds : List documents.Document) (text : List ℕ)
    → IsDumped s ds (Ok text) → AreDumpsTooDeep s ds → ⊥
laid_shallow s ds text k deep =
    false≢true (sym k.fits.columns ∙ (deep_stream (requested_under s true) refl k.encoding YAML_ANY_ENCODING (map graph_content (ended ds)) k.whole k.stream (deep_ended (settled_indent s.indent) ds deep)))

pub reloads_keep : ReloadsKeepColumns
unfolding IsReloaded
reloads_keep from s input text ds h k deep =
    laid_shallow s k.0.documents text k.0.dumped (subst (λ (es : List documents.Document). AreDumpsTooDeep s es) (sym (same_loading from input ds k.0.documents h k.0.loading)) deep)
