-- The flags and tags of an input's normalized events.
use Rattle.std.proofs.Common.{◌≡◌, ℕ, Bool, true, false, not, if◌then◌else◌, List, [], ◌∷◌, Option, Some, None, codes, refl, subst, inl, inr, sym, ◌∙◌, bytes_eq, ap, ◌==◌, length, IsUtf8}
use Rattle.yaml_round_content.proofs.PrettyWords.{cases_Bool, true≢false, yaml_encoding_t, yaml_scalar_style_t, EventBody, TagDirective, Shape, run, initial, no_directives, is_missing, node_event, Told, reading, is_lone_mark, normalize_scalar, normalize_body, emitter_events, tokens_of, events_of, read, has, event_problem, last_problem, own_problem, own_problems, opening_problem, or_else, name_problem, anchor_problem, tag_problem, scalar_tag, start_tag, IsNoMark, HasNoMark, HaveNoMark, PairsHaveNoMark, AreParsable, HasScalarFlags, HasStartFlags, HasFlags, HaveFlags, PairsHaveFlags, HaveReaderFlags, HaveNoMarks, InputsHaveReaderFlags, InputsAreParsable, or_first, or_second, HaveUtf8, written_readable, IsReadableTag, IsTagged, AreTagged, PairsAreTagged, HaveTexts, InputsLayoutIsWritable}
use Rattle.std.proofs.lemmas.Slice.Eq.{bytes_eq-Decides}
use Rattle.yaml_parse_model.specs.Events as event
use Rattle.yaml_emit_laws.specs.parse_grammar.Items as item
use Rattle.yaml_emit_laws.specs.parse_grammar.Resolve.{is_plain}
use Rattle.yaml_emit_laws.proofs.Throughout.{EventsAre, reading_is}
use Rattle.yaml_round_content.proofs.Tokens.{tokens_spelled}
use Rattle.yaml_round_content.proofs.Spellings.{IsWhole, IsSpelledItem}
use Rattle.yaml_round_content.proofs.Runs.{stream_spelled}
use Rattle.yaml_emit_laws.specs.emit_layout.Content as emit
use Rattle.std.specs.List.{list_all}
use Rattle.yaml_parse_model.specs.Constructors.{IsUtf8Option, AreUtf8, HasUtf8}
use Rattle.yaml_parse_model.specs.scan_types.Classes.{is_alpha_byte}
use Rattle.yaml_emit_laws.specs.emit_layout.declared.problem.Problem.{Problem}
use Rattle.yaml_emit_laws.specs.Writable as text
use Rattle.yaml_round_content.specs.WritableLaws.{HaveUtf8Texts}
use Rattle.yaml_round_content.proofs.Utf8.{input_utf8}
use Rattle.yaml_round_content.specs.BytesLaws as bytes
use Rattle.yaml_round_content.proofs.Contents.{start_by}
use Rattle.yaml_round_content.proofs.PrettyDocuments.{written_is}
use Rattle.yaml_round_content.proofs.Premises.{alphas_are}
use Rattle.yaml_round_content.proofs.Scalars.{flags_differ}
use Rattle.yaml_round_content.proofs.Events.{some_byte}

-- ---- an event

abbrev IsRight : emit.Event → Type 0
IsRight (emit.scalar x) = HasScalarFlags x.tag x.plain x.quoted × IsNoMark x.tag
IsRight (emit.sequence_start o) = HasStartFlags o.tag o.implicit
IsRight (emit.mapping_start o) = HasStartFlags o.tag o.implicit
IsRight other = Unit {0}

abbrev AreRight : List emit.Event → Type 0
AreRight [] = Unit {0}
AreRight (e ∷ es) = IsRight e × AreRight es

abbrev BodyRight : EventBody → Type 0
BodyRight b = IsRight (emit.emitter_event (normalize_body false b))

-- an empty scalar that isn't a lone `!`
empty_no_mark : (tag : List ℕ) → is_lone_mark (Some tag) [] ≡ false → IsNoMark (Some tag)
empty_no_mark tag e =
    elim (cases_Bool (bytes_eq tag (codes "!"))) [
      | inr h ↦ h
      | inl h ↦ absurd (true≢false (sym (marked h) ∙ e))
    ]
  where
    marked : bytes_eq tag (codes "!") ≡ true → is_lone_mark (Some tag) [] ≡ true
    marked h = rw ((bytes_eq-Decides tag (codes "!")).0 h) refl

tagged : (m : Bool) (anchor : Option (List ℕ)) (tag value : List ℕ) (style : yaml_scalar_style_t)
    → (m ≡ false → IsNoMark (Some tag))
    → IsRight (emit.emitter_event (normalize_scalar m anchor (Some tag) value false false style))
tagged true anchor tag value style h = (refl, tt)
tagged false anchor tag value style h = ((refl, refl), h refl)

named : (b : Bool) (anchor : Option (List ℕ)) (tag value : List ℕ) (style : yaml_scalar_style_t)
    → bytes_eq tag (codes "!") ≡ b
    → BodyRight (if b then event.scalar anchor None value true false style else event.scalar anchor
    (Some tag) value false false style)
named true anchor tag value style e = (refl, tt)
named false anchor tag value style e = tagged (is_lone_mark (Some tag) value) anchor tag value style (λ _. e)

missing : (tag : Option (List ℕ)) → is_missing tag ≡ not (has tag)
missing None = refl
missing (Some t) = refl

flags_of_node : (anchor tag : Option (List ℕ)) (k : Shape) → BodyRight (node_event anchor tag k)
flags_of_node anchor None item.empty = (refl, tt)
flags_of_node anchor (Some tag) item.empty = tagged (is_lone_mark (Some tag) []) anchor tag [] _ (empty_no_mark tag)
flags_of_node anchor None (item.scalar value style) = (flags_differ (is_plain style), tt)
flags_of_node anchor (Some tag) (item.scalar value style) = named (bytes_eq tag (codes "!")) anchor tag value style refl
flags_of_node anchor tag _ = missing tag

-- ---- the events of an input

whole_right : (b : EventBody) → IsWhole b → BodyRight b
whole_right event.no h = absurd h
whole_right (event.document_start version directives implicit) h = absurd h
whole_right (event.scalar anchor tag value plain quoted style) h = absurd h
whole_right (event.sequence_start anchor tag implicit style) h = absurd h
whole_right (event.mapping_start anchor tag implicit style) h = absurd h
whole_right _ h = tt

all_right : (ts : List Told) → EventsAre BodyRight ts → AreRight (emitter_events false ts)
all_right [] h = tt
all_right (t ∷ ts) h = (h.0, all_right ts h.1)

input_right : (from : yaml_encoding_t) (input : List ℕ)
    → AreRight (emitter_events false (events_of from input))
unfolding read
input_right from input =
    let ts = (tokens_of from input).tokens in
    let f = (tokens_of from input).fault in
    all_right (reading (run ts initial f).items (run ts initial f).ending no_directives).events
    (reading_is IsSpelledItem BodyRight (record { whole = whole_right; document = λ v tags implicit. tt; node = flags_of_node }) (run ts initial f).items (run ts initial f).ending no_directives
    (stream_spelled ts f (tokens_spelled from input)))

-- ---- documents

mutual
  unfolding emit.node_events emit.items_events emit.pairs_events

  node_flags : (n : emit.Node) (es : List emit.Event) → AreRight (emit.node_events n es)
      → (HasFlags n × HasNoMark n) × AreRight es
  node_flags (emit.alias_node name) es (h, hs) = ((tt, tt), hs)
  node_flags (emit.scalar_node x) es (h, hs) = (h, hs)
  node_flags (emit.sequence_node o items) es (h, hs) =
      let ((flags, fine), (last, rest)) = items_flags items (emit.sequence_end ∷ es) hs in
      (((h, flags), fine), rest)
  node_flags (emit.mapping_node o pairs) es (h, hs) =
      let ((flags, fine), (last, rest)) = pairs_flags pairs (emit.mapping_end ∷ es) hs in
      (((h, flags), fine), rest)

  items_flags : (ns : emit.Nodes) (es : List emit.Event) → AreRight (emit.items_events ns es)
      → (HaveFlags ns × HaveNoMark ns) × AreRight es
  items_flags emit.no_nodes es hs = ((tt, tt), hs)
  items_flags (emit.node x xs) es hs =
      let ((f, g), more) = node_flags x (emit.items_events xs es) hs in
      let ((fs, gs), rest) = items_flags xs es more in
      (((f, fs), (g, gs)), rest)

  pairs_flags : (ps : emit.Pairs) (es : List emit.Event) → AreRight (emit.pairs_events ps es)
      → (PairsHaveFlags ps × PairsHaveNoMark ps) × AreRight es
  pairs_flags emit.no_pairs es hs = ((tt, tt), hs)
  pairs_flags (emit.pair k v ps) es hs =
      let ((fk, gk), behind) = node_flags k (emit.node_events v (emit.pairs_events ps es)) hs in
      let ((fv, gv), more) = node_flags v (emit.pairs_events ps es) behind in
      let ((fs, gs), rest) = pairs_flags ps es more in
      (((fk, fv, fs), (gk, gv, gs)), rest)

documents_flags : (ds : List emit.Document) → AreRight (emit.documents_events ds)
    → HaveReaderFlags ds × HaveNoMarks ds
unfolding emit.documents_events
documents_flags [] hs = (tt, tt)
documents_flags (d ∷ ds) (start, hs) =
    let ((f, g), (end, more)) = node_flags d.root (emit.document_end d.implicit_end ∷ emit.documents_events ds) hs in
    let (fs, gs) = documents_flags ds more in
    ((f, fs), (g, gs))

pub inputs_flags : InputsHaveReaderFlags
inputs_flags from input x ds same = documents_flags ds (subst (λ (es : List emit.Event). AreRight es) same (input_right from input)).1

-- ==== The documents of a text that is laid out for an input can be parsed.

abbrev pub Right : Bool → List emit.Event → Type 0
Right c es = own_problems c es ≡ None

pub tail : (c : Bool) (e : emit.Event) (es : List emit.Event) → Right c (e ∷ es) → Right c es
unfolding own_problems
tail c e es h = or_second (own_problem c e) (own_problems c es) h

pub head : (c : Bool) (e : emit.Event) (es : List emit.Event) → Right c (e ∷ es)
    → own_problem c e ≡ None
unfolding own_problems
head c e es h = or_first (own_problem c e) (own_problems c es) h

mutual
  unfolding emit.node_events emit.items_events emit.pairs_events

  node_right : (c : Bool) (n : emit.Node) (es : List emit.Event) → Right c (emit.node_events n es)
      → Right c es
  node_right c (emit.alias_node name) es h = tail c (emit.alias name) es h
  node_right c (emit.scalar_node x) es h = tail c (emit.scalar x) es h
  node_right c (emit.sequence_node o items) es h = tail c emit.sequence_end es (items_right c items (emit.sequence_end ∷ es) (tail c (emit.sequence_start o) _ h))
  node_right c (emit.mapping_node o pairs) es h = tail c emit.mapping_end es (pairs_right c pairs (emit.mapping_end ∷ es) (tail c (emit.mapping_start o) _ h))

  items_right : (c : Bool) (ns : emit.Nodes) (es : List emit.Event)
      → Right c (emit.items_events ns es) → Right c es
  items_right c emit.no_nodes es h = h
  items_right c (emit.node x xs) es h = items_right c xs es (node_right c x (emit.items_events xs es) h)

  pairs_right : (c : Bool) (ps : emit.Pairs) (es : List emit.Event)
      → Right c (emit.pairs_events ps es) → Right c es
  pairs_right c emit.no_pairs es h = h
  pairs_right c (emit.pair k v ps) es h = pairs_right c ps es (node_right c v (emit.pairs_events ps es) (node_right c k (emit.node_events v (emit.pairs_events ps es)) h))

pub opening_right : (c : Bool) (o : emit.Opening) → own_problem c (emit.document_start o) ≡ None
    → opening_problem o ≡ None
unfolding event_problem last_problem
opening_right c o h = h

documents_parsable : (c : Bool) (ds : List emit.Document) → Right c (emit.documents_events ds)
    → HaveNoMarks ds → AreParsable ds
unfolding emit.documents_events
documents_parsable c [] h fine = tt
documents_parsable c (d ∷ ds) h (g, fine) =
    let rest = emit.node_events d.root (emit.document_end d.implicit_end ∷ emit.documents_events ds) in
    let behind = node_right c d.root (emit.document_end d.implicit_end ∷ emit.documents_events ds) (tail c (emit.document_start d.opening) rest h) in
    ((opening_right c d.opening (head c (emit.document_start d.opening) rest h), g), documents_parsable c ds (tail c (emit.document_end d.implicit_end) (emit.documents_events ds) behind) fine)

pub inputs_parsable : InputsAreParsable
inputs_parsable w from input x whole stream =
    let right : Right w.canonical (emit.stream_events stream.encoding stream.documents) = sym (ap (λ (es : List emit.Event). own_problems w.canonical es) stream.same) ∙ stream.right in
    documents_parsable w.canonical stream.documents (tail w.canonical (emit.stream_start stream.encoding) (emit.documents_events stream.documents) right) (inputs_flags from input stream.encoding stream.documents stream.same).1

-- ==== What is laid out in pretty form for an input may be written.

-- ---- texts of events

abbrev Texts : emit.Event → Type 0
Texts (emit.document_start o) = HaveUtf8 o.directives
Texts (emit.scalar x) = bytes.IsTextOption x.tag × IsUtf8 x.value
Texts (emit.sequence_start o) = bytes.IsTextOption o.tag
Texts (emit.mapping_start o) = bytes.IsTextOption o.tag
Texts other = Unit {0}

-- nothing is wrong with it, and its texts are UTF-8
abbrev IsGood : emit.Event → Type 0
IsGood e = (own_problem false e ≡ None) × Texts e

abbrev AreGood : List emit.Event → Type 0
AreGood [] = Unit {0}
AreGood (e ∷ es) = IsGood e × AreGood es

option_text : (t : Option (List ℕ)) → IsUtf8Option t → bytes.IsTextOption t
option_text None u = tt
option_text (Some t) u = u

directives_text : (ds : List TagDirective) → AreUtf8 ds → HaveUtf8 ds
directives_text [] u = tt
directives_text (d ∷ ds) ((h, u), us) = (u, directives_text ds us)

scalar_text : (lone : Bool) (anchor tag : Option (List ℕ)) (value : List ℕ) (plain quoted : Bool)
    (style : yaml_scalar_style_t) → IsUtf8Option tag → IsUtf8 value
    → Texts (emit.emitter_event (normalize_scalar lone anchor tag value plain quoted style))
scalar_text true anchor tag value plain quoted style t u = (tt, u)
scalar_text false anchor tag value plain quoted style t u = (option_text tag t, u)

body_text : (b : EventBody) → HasUtf8 b → Texts (emit.emitter_event (normalize_body false b))
body_text (event.document_start version directives implicit) u = directives_text directives u
body_text (event.scalar anchor tag value plain quoted style) (a, t, u) = scalar_text (is_lone_mark tag value) anchor tag value plain quoted style t u
body_text (event.sequence_start anchor tag implicit style) (a, t) = option_text tag t
body_text (event.mapping_start anchor tag implicit style) (a, t) = option_text tag t
body_text _ u = tt

abbrev AllTexts : List emit.Event → Type 0
AllTexts [] = Unit {0}
AllTexts (e ∷ es) = Texts e × AllTexts es

told_texts : (es : List Told) → HaveUtf8Texts es → AllTexts (emitter_events false es)
told_texts [] us = tt
told_texts (t ∷ ts) (u, us) = (body_text t.0.body u, told_texts ts us)

good : (es : List emit.Event) → Right false es → AllTexts es → AreGood es
good [] r us = tt
good (e ∷ es) r (u, us) = ((head false e es r, u), good es (tail false e es r) us)

-- ---- names and tags

two_tests : (p q : Problem) (e l : Bool) → (if e then Some p else if l then None else Some q) ≡ None
    → (e ≡ false) × (l ≡ true)
two_tests p q true l h = absurd (cc)
two_tests p q false true h = (refl, refl)
two_tests p q false false h = absurd (cc)

one_test : (p : Problem) (e : Bool) → (if e then Some p else None) ≡ None → e ≡ false
one_test p true h = absurd (cc)
one_test p false h = refl

name_good : (p q : Problem) (name : List ℕ) → name_problem p q name ≡ None
    → text.IsWritableName name × bytes.IsName name
name_good p q name h =
    let (some, alphas) = two_tests p q (length name == 0) (list_all is_alpha_byte name) h in
    ((some_byte (length name) some, sym (alphas_are name) ∙ alphas), alphas)

anchor_good : (anchor : Option (List ℕ)) → anchor_problem anchor ≡ None
    → text.IsWritableAnchor anchor × bytes.IsNameOption anchor
anchor_good None h = (tt, tt)
anchor_good (Some name) h = name_good _ _ name h

tag_good : (tag written : Option (List ℕ)) → written ≡ tag → tag_problem written ≡ None
    → bytes.IsTextOption tag → text.IsWritableTag tag
tag_good None written w h u = tt
tag_good (Some t) written w h u = (some_byte (length t) (one_test _ (length t == 0) (sym (ap (λ (o : Option (List ℕ)). tag_problem o) w) ∙ h)), u)

-- ---- nodes

alias_good : (name : List ℕ) → IsGood (emit.alias name)
    → text.IsWritableName name × bytes.IsName name
unfolding event_problem last_problem
alias_good name (h, u) = name_good _ _ name (or_first (event_problem false (emit.alias name)) None h)

scalar_good : (x : emit.Scalar) → HasFlags (emit.scalar_node x) → IsGood (emit.scalar x)
    → text.IsWritable (emit.scalar_node x) × bytes.IsSpellable (emit.scalar_node x)
unfolding event_problem
scalar_good x flags (h, (t, u)) =
    let own = or_first (event_problem false (emit.scalar x)) (last_problem (emit.scalar x)) h in
    let (a, b) = anchor_good x.anchor (or_first (anchor_problem x.anchor) (tag_problem (scalar_tag false x)) own) in
    let tag = tag_good x.tag (scalar_tag false x) (written_is x.tag x.plain x.quoted flags) (or_second (anchor_problem x.anchor) (tag_problem (scalar_tag false x)) own) t in
    ((a, tag, u), (b, t, u))

start_good : (o : emit.Start) → start_tag false o ≡ o.tag
    → or_else (anchor_problem o.anchor) (tag_problem (start_tag false o)) ≡ None
    → bytes.IsTextOption o.tag
    → (text.IsWritableAnchor o.anchor × text.IsWritableTag o.tag)
    × (bytes.IsNameOption o.anchor × bytes.IsTextOption o.tag)
start_good o w own t =
    let (a, b) = anchor_good o.anchor (or_first (anchor_problem o.anchor) (tag_problem (start_tag false o)) own) in
    ((a, tag_good o.tag (start_tag false o) w (or_second (anchor_problem o.anchor) (tag_problem (start_tag false o)) own) t), (b, t))

sequence_good : (o : emit.Start) → start_tag false o ≡ o.tag → IsGood (emit.sequence_start o)
    → (text.IsWritableAnchor o.anchor × text.IsWritableTag o.tag)
    × (bytes.IsNameOption o.anchor × bytes.IsTextOption o.tag)
unfolding event_problem last_problem
sequence_good o w (h, t) = start_good o w (or_first (event_problem false (emit.sequence_start o)) None h) t

mapping_good : (o : emit.Start) → start_tag false o ≡ o.tag → IsGood (emit.mapping_start o)
    → (text.IsWritableAnchor o.anchor × text.IsWritableTag o.tag)
    × (bytes.IsNameOption o.anchor × bytes.IsTextOption o.tag)
unfolding event_problem last_problem
mapping_good o w (h, t) = start_good o w (or_first (event_problem false (emit.mapping_start o)) None h) t

mutual
  unfolding emit.node_events emit.items_events emit.pairs_events

  node_good : (n : emit.Node) → HasFlags n → (es : List emit.Event)
      → AreGood (emit.node_events n es) → (text.IsWritable n × bytes.IsSpellable n) × AreGood es
  node_good (emit.alias_node name) flags es (g, gs) = (alias_good name g, gs)
  node_good (emit.scalar_node x) flags es (g, gs) = (scalar_good x flags g, gs)
  node_good (emit.sequence_node o items) (f, flags) es (g, gs) =
      let ((a, t), (b, u)) = sequence_good o (start_by o.tag o.implicit f) g in
      let ((w, s), (last, rest)) = items_good items flags (emit.sequence_end ∷ es) gs in
      (((a, t, w), (b, u, s)), rest)
  node_good (emit.mapping_node o pairs) (f, flags) es (g, gs) =
      let ((a, t), (b, u)) = mapping_good o (start_by o.tag o.implicit f) g in
      let ((w, s), (last, rest)) = pairs_good pairs flags (emit.mapping_end ∷ es) gs in
      (((a, t, w), (b, u, s)), rest)

  items_good : (ns : emit.Nodes) → HaveFlags ns → (es : List emit.Event)
      → AreGood (emit.items_events ns es)
      → (text.AreItemsWritable ns × bytes.AreSpellable ns) × AreGood es
  items_good emit.no_nodes flags es gs = ((tt, tt), gs)
  items_good (emit.node x xs) (f, flags) es gs =
      let ((w, s), more) = node_good x f (emit.items_events xs es) gs in
      let ((ws, ss), rest) = items_good xs flags es more in
      (((w, ws), (s, ss)), rest)

  pairs_good : (ps : emit.Pairs) → PairsHaveFlags ps → (es : List emit.Event)
      → AreGood (emit.pairs_events ps es)
      → (text.ArePairsWritable ps × bytes.PairsAreSpellable ps) × AreGood es
  pairs_good emit.no_pairs flags es gs = ((tt, tt), gs)
  pairs_good (emit.pair k v ps) (fk, fv, flags) es gs =
      let ((wk, sk), behind) = node_good k fk (emit.node_events v (emit.pairs_events ps es)) gs in
      let ((wv, sv), more) = node_good v fv (emit.pairs_events ps es) behind in
      let ((ws, ss), rest) = pairs_good ps flags es more in
      (((wk, wv, ws), (sk, sv, ss)), rest)

-- ---- tags that can be read

-- the directives may be written
record Opened (o : emit.Opening) : Type 0 where
  right : opening_problem o ≡ None
  utf8 : HaveUtf8 o.directives

readable_tag : (o : emit.Opening) → Opened o → (tag : Option (List ℕ)) → text.IsWritableTag tag
    → IsReadableTag o.directives tag
readable_tag o h None t = tt
readable_tag o h (Some t) (some, utf8) = written_readable o h.right h.utf8 t utf8 some

mutual
  node_tagged : (o : emit.Opening) → Opened o → (n : emit.Node) → text.IsWritable n
      → IsTagged o.directives n
  node_tagged o h (emit.alias_node name) w = tt
  node_tagged o h (emit.scalar_node x) (a, t, v) = readable_tag o h x.tag t
  node_tagged o h (emit.sequence_node q items) (a, t, w) = (readable_tag o h q.tag t, items_tagged o h items w)
  node_tagged o h (emit.mapping_node q pairs) (a, t, w) = (readable_tag o h q.tag t, pairs_tagged o h pairs w)

  items_tagged : (o : emit.Opening) → Opened o → (ns : emit.Nodes) → text.AreItemsWritable ns
      → AreTagged o.directives ns
  items_tagged o h emit.no_nodes w = tt
  items_tagged o h (emit.node x xs) (w, ws) = (node_tagged o h x w, items_tagged o h xs ws)

  pairs_tagged : (o : emit.Opening) → Opened o → (ps : emit.Pairs) → text.ArePairsWritable ps
      → PairsAreTagged o.directives ps
  pairs_tagged o h emit.no_pairs w = tt
  pairs_tagged o h (emit.pair k v ps) (wk, wv, ws) = (node_tagged o h k wk, node_tagged o h v wv, pairs_tagged o h ps ws)

-- ---- documents

prefixes : (ds : List TagDirective) → HaveUtf8 ds → bytes.HavePrefixes ds
prefixes [] h = tt
prefixes (d ∷ ds) (h, hs) = (h, prefixes ds hs)

documents_good : (ds : List emit.Document) → HaveReaderFlags ds → AreGood (emit.documents_events ds)
    → text.AreWritable ds × bytes.DocumentsAreSpellable ds × HaveTexts ds
unfolding emit.documents_events
documents_good [] flags gs = (tt, tt, tt)
documents_good (d ∷ ds) (f, flags) ((own, utf8), gs) =
    let ((w, s), (end, more)) = node_good d.root f (emit.document_end d.implicit_end ∷ emit.documents_events ds) gs in
    let (ws, ss, ts) = documents_good ds flags more in
    let right = opening_right false d.opening own in
    (((right, utf8), w, ws), (right, prefixes d.opening.directives utf8, s, ss), (utf8, node_tagged d.opening (record { right = right; utf8 = utf8 }) d.root w, ts))

pub layout_writable : InputsLayoutIsWritable
layout_writable w pretty from input x whole stream =
    let told = good (emitter_events false (events_of from input)) (sym (ap (λ (c : Bool). own_problems c (emitter_events false (events_of from input))) pretty) ∙ stream.right) (told_texts (events_of from input) (input_utf8 from input)) in
    let (first, rest) = subst (λ (es : List emit.Event). AreGood es) stream.same told in
    documents_good stream.documents (inputs_flags from input stream.encoding stream.documents stream.same).0 rest
