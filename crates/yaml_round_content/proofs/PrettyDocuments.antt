-- Trees of documents.
use Rattle.std.proofs.Common.{◌≡◌, Bool, true, false, not, ◌&&◌, ◌||◌, List, [], ◌∷◌, length, Option, Some, None, refl, sym, ap, ◌∙◌, ℕ, ◌==◌, if◌then◌else◌, map, subst, arith}
use Rattle.yaml_round_content.proofs.PrettyWords.{nat_tests, or-true, and-false, and-true, yaml_encoding_t, Token, TokenBody, EventBody, TagDirective, Root, Span, token_at, Given, spell_node, spell_maybe, spell_directives, spell_ends, spell_documents, no_first, items_node, items_maybe, items_ends, items_documents, items, behind, run, feed, Directives, no_directives, Reading, reading, Told, Settings, Opening, Document, Event, scalar, Scalar, Node, scalar_node, node_events, documents_events, stream_events, has_version, has_directives, is_directed, is_marked, style_of, is_plain, opening_problem, has, kept_tag, version_bodies, directives_bodies, end_bodies, anchor_bodies, tag_bodies, mark_bodies, start_bodies, token_bodies, event_bodies, SaysTree, HasNoMark, AreParsable, parsed_of, take, context_in, root_bodies, is_root_kept, is_left_out, has_dots, opening_bodies, documents_bodies, starts_with_nothing, takes_mark, is_bare, is_nothing, scalar_bodies, node_bodies, root_reads, documents_reads, stream_reads, PrettyTokensAreParsed, BeginningIsTold, PrettyTokensAreLost, fine_version, fine_tags, false≢true, YAML_ANY_ENCODING, yaml_scalar_style_t, emitter_events, contents, Style, allowed, taken, HasScalarFlags, HaveReaderFlags, is_asked_plain, begins_with_nothing}
use Rattle.yaml_parse_model.specs.declared.yaml_version_directive_t.{yaml_version_directive_t}
use Rattle.yaml_parse_model.specs.scan_types.Tokens as token
use Rattle.yaml_parse_model.specs.Events as event
use Rattle.yaml_emit_laws.specs.parse_grammar.Items as item
use Rattle.yaml_emit_laws.specs.parse_grammar.Trees as trees
use Rattle.yaml_emit_laws.proofs.CompleteStream.{stream_runs}
use Rattle.yaml_emit_laws.specs.emit_layout.declared.level.Part.TheVariants as part
use Rattle.yaml_round_content.proofs.ReadBackDocuments.{version_directed, item_says, no_spans, ends_say, resolving}
use Rattle.yaml_emit_laws.specs.NodeBodies.{is_empty}
use Rattle.yaml_round_content.proofs.PrettyNodes.{nodes_grown, maybes_grown}
use Rattle.std.specs.Str.{chars}
use Rattle.yaml_emit_laws.specs.emit_layout.declared.Style.TheVariants as style
use Rattle.yaml_round_content.proofs.Contents.{says, content, contents_said, contents_by, documents_same}

-- events, and the end without a fault
pub record Ends (r : Reading) (bs : List EventBody) : Type 0 where
  pub events : event_bodies r ≡ bs
  pub ending : r.ending ≡ None

-- what is put before a reading that ends so
pub ends_by : (R : List EventBody → List EventBody) (r q : Reading) (bs : List EventBody)
    → SaysTree R r q
    → Ends q bs → Ends r (R bs)
ends_by R r q bs s e = record { events = s.events ∙ ap (λ (x : List EventBody). R x) e.events; ending = s.ending ∙ e.ending }

-- the ends of the document before, and the documents after them
pub record Parsed (s : Settings) (explicit unended kept : Bool) (ds : List Document) (ts : List Token) : Type 0 where
  pub ends : List Span
  pub documents : trees.Documents
  pub rest : List Token
  pub same : ts ≡ spell_ends ends (spell_documents documents rest)
  pub none : no_spans ends ≡ not (explicit || (unended && has_dots kept ds))
  pub gives : Ends (reading (items_documents documents rest) None no_directives)
      (documents_reads s false ds)

-- documents, of which the first has its `---`
pub record Read (es : List EventBody) (ts : List Token) : Type 0 where
  pub documents : trees.Documents
  pub rest : List Token
  pub same : ts ≡ spell_documents documents rest
  pub gives : Ends (reading (items_documents documents rest) None no_directives) es

stream_ends : (s : Settings) (ts : List Token) → token_bodies ts ≡ token.stream_end ∷ []
    → Read (documents_reads s false []) ts
unfolding documents_reads reading
stream_ends s ts e =
    let t = take ts token.stream_end [] e in
    record { documents = trees.end_stream t.span; rest = t.rest; same = t.same; gives = record { events = refl; ending = refl } }

flags : (i b : Bool) → not (not i || (i && b)) ≡ (i && not b)
flags true b = refl
flags false b = refl

-- the end of a document, and the documents after it
record Closed (s : Settings) (implicit : Bool) (ds : List Document) (ts : List Token) (es : List EventBody) : Type 0 where
  ends : List Span
  documents : trees.Documents
  rest : List Token
  same : ts ≡ spell_ends ends (spell_documents documents rest)
  gives : (D : Directives)
      → Ends (reading (items_ends ends (spell_documents documents rest)
      (items_documents documents rest)) None D) es

closed : (s : Settings) (implicit kept : Bool) (ds : List Document) (ts : List Token)
    → Parsed s (not implicit) implicit kept ds ts
    → Closed s implicit ds ts (event.document_end (implicit && not (has_dots kept ds))
    ∷ documents_reads s false ds)
closed s implicit kept ds ts b =
    let more = spell_documents b.documents b.rest in
    let last = items_documents b.documents b.rest in
    let flag : no_spans b.ends ≡ (implicit && not (has_dots kept ds)) = b.none ∙ flags implicit (has_dots kept ds) in
    record {
      ends = b.ends;
      documents = b.documents;
      rest = b.rest;
      same = b.same;
      gives = λ D.
          let x = ends_by (λ es. event.document_end (no_spans b.ends) ∷ es) (reading (items_ends b.ends more last) None D) (reading last None no_directives) (documents_reads s false ds) (ends_say b.ends more last None D) b.gives in
          record { events = x.events ∙ ap (λ (y : Bool). event.document_end y ∷ documents_reads s false ds) flag; ending = x.ending };
    }

-- what is after a document's root
abbrev pub After : Settings → Document → List Document → List TokenBody
After s d ds = end_bodies (not d.implicit_end) (documents_bodies s false d.implicit_end (is_root_kept s d) ds)

abbrev pub Behind : Settings → Document → List Document → Type 0
Behind s d ds = (ts : List Token) → token_bodies ts ≡ After s d ds → Parsed s (not d.implicit_end) d.implicit_end (is_root_kept s d) ds ts

-- a document with its `---`, from its directives on
one_document : (s : Settings) (fresh : Bool) (d : Document) (ds : List Document)
    → is_marked s fresh d.opening ≡ true → opening_problem d.opening ≡ None → HasNoMark d.root
    → Behind s d ds → (ts : List Token)
    → token_bodies ts ≡ opening_bodies s fresh d.opening (root_bodies s d (After s d ds))
    → Read (documents_reads s fresh (d ∷ ds)) ts
unfolding documents_reads
one_document s fresh d ds marked opening fine behind_root ts e =
    let o = d.opening in
    let E : Directives = record { version = o.version; tags = o.directives } in
    let after = After s d ds in
    let root_of = token.document_start ∷ root_bodies s d after in
    let marked_too = e ∙ ap (λ (b : Bool). version_bodies o.version (directives_bodies o.directives (start_bodies (not b) (root_bodies s d after)))) marked in
    let dir = version_directed o.version o.directives (fine_version o opening) (fine_tags o opening) ts root_of marked_too in
    let t = take dir.rest token.document_start (root_bodies s d after) dir.left in
    let n = maybes_grown (context_in s d) (resolving o opening) d.root fine false part.Item true Root t.span.to t.rest after t.left in
    let b = closed s d.implicit_end (is_root_kept s d) ds n.rest (behind_root n.rest n.left) in
    let more = spell_documents b.documents b.rest in
    let last = items_documents b.documents b.rest in
    let ending = items_ends b.ends more last in
    let root = items_maybe n.tree Root t.span.to (spell_ends b.ends more) ending in
    let head : Given = (item.item_at (item.document false) (trees.start_of dir.directives t.span) t.span.to, length (spell_maybe n.tree (spell_ends b.ends more))) in
    let done = event.document_end (d.implicit_end && not (has_dots (is_root_kept s d) ds)) ∷ documents_reads s false ds in
    let second = ends_by (root_reads s d) (reading root None E) (reading ending None E) done (n.said.gives (spell_ends b.ends more) ending None E refl) (b.gives E) in
    let whole = ends_by (λ es. event.document_start o.version o.directives false ∷ es) (reading (head ∷ root) None E) (reading root None E) (root_reads s d done)
    (item_says head root None E E (event.document_start o.version o.directives false) refl) second in
    let front = dir.gives (token_at token.document_start t.span ∷ spell_maybe n.tree (spell_ends b.ends more)) (head ∷ root) None in
    record {
      documents = trees.document dir.directives t.span n.tree b.ends b.documents;
      rest = b.rest;
      same = dir.same
          ∙ ap (λ (y : List Token). spell_directives dir.directives y) (t.same ∙ ap (λ (y : List Token). token_at token.document_start t.span ∷ y) (n.said.same ∙ ap (λ (y : List Token). spell_maybe n.tree y) b.same));
      gives = record {
        events = ap (λ (r : Reading). event_bodies r) front ∙ whole.events ∙ ap (λ (m : Bool). event.document_start o.version o.directives (not m) ∷ root_reads s d done) (sym marked);
        ending = ap (λ (r : Reading). r.ending) front ∙ whole.ending;
      };
    }

at_end : (s : Settings) (unended kept dots : Bool) → (unended && kept) ≡ dots → (ts : List Token)
    → token_bodies ts ≡ end_bodies dots (token.stream_end ∷ []) → Parsed s false unended kept [] ts
at_end s unended kept true is ts e =
    let t = take ts token.document_end (token.stream_end ∷ []) e in
    let x = stream_ends s t.rest t.left in
    record { ends = t.span ∷ []; documents = x.documents; rest = x.rest; same = t.same ∙ ap (λ (y : List Token). token_at token.document_end t.span ∷ y) x.same; none = sym (ap (λ (b : Bool). not b) is); gives = x.gives }
at_end s unended kept false is ts e =
    let x = stream_ends s ts e in
    record { ends = []; documents = x.documents; rest = x.rest; same = x.same; none = sym (ap (λ (b : Bool). not b) is); gives = x.gives }

begun : (s : Settings) (unended kept dots : Bool) (d : Document) (ds : List Document)
    (bs : List TokenBody) → (unended && is_directed d.opening) ≡ dots
    → ((us : List Token) → token_bodies us ≡ bs → Read (documents_reads s false (d ∷ ds)) us)
    → (ts : List Token) → token_bodies ts ≡ end_bodies dots bs
    → Parsed s false unended kept (d ∷ ds) ts
begun s unended kept true d ds bs is one ts e =
    let t = take ts token.document_end bs e in
    let x = one t.rest t.left in
    record { ends = t.span ∷ []; documents = x.documents; rest = x.rest; same = t.same ∙ ap (λ (y : List Token). token_at token.document_end t.span ∷ y) x.same; none = sym (ap (λ (b : Bool). not b) is); gives = x.gives }
begun s unended kept false d ds bs is one ts e =
    let x = one ts e in
    record { ends = []; documents = x.documents; rest = x.rest; same = x.same; none = sym (ap (λ (b : Bool). not b) is); gives = x.gives }

pub behind_root : (s : Settings) (implicit kept : Bool) (ds : List Document) (ts : List Token)
    → ((us : List Token) → token_bodies us ≡ documents_bodies s false implicit kept ds
    → Parsed s false implicit kept ds us)
    → token_bodies ts ≡ end_bodies (not implicit) (documents_bodies s false implicit kept ds)
    → Parsed s (not implicit) implicit kept ds ts
behind_root s true kept ds ts rest e = rest ts e
behind_root s false kept ds ts rest e =
    let t = take ts token.document_end (documents_bodies s false false kept ds) e in
    let x = rest t.rest t.left in
    record { ends = t.span ∷ x.ends; documents = x.documents; rest = x.rest; same = t.same ∙ ap (λ (y : List Token). token_at token.document_end t.span ∷ y) x.same; none = refl; gives = x.gives }

pub documents_parsed : (s : Settings) (unended kept : Bool) (ds : List Document) → AreParsable ds
    → (ts : List Token) → token_bodies ts ≡ documents_bodies s false unended kept ds
    → Parsed s false unended kept ds ts
unfolding documents_bodies
documents_parsed s unended kept [] fine ts e = at_end s unended kept (unended && kept) refl ts e
documents_parsed s unended kept (d ∷ ds) ((opening, root), fine) ts e =
    begun s unended kept (unended && is_directed d.opening) d ds (opening_bodies s false d.opening (root_bodies s d (After s d ds))) refl
    (λ us x. one_document s false d ds (or-true s.canonical) opening root (λ vs y. behind_root s d.implicit_end (is_root_kept s d) ds vs (documents_parsed s d.implicit_end (is_root_kept s d) ds fine) y) us x) ts e

-- ---- the stream

abbrev pub IsParsed : yaml_encoding_t → List EventBody → List Token → Type 0
IsParsed x es ts = (event_bodies (parsed_of ts) ≡ event.stream_start x ∷ es) × ((parsed_of ts).ending ≡ None)

parsed_by : (x : yaml_encoding_t) (es : List EventBody) (tree : trees.Stream) (rest ts : List Token)
    → ts ≡ trees.spell tree rest
    → Ends (reading (items tree rest) None no_directives) (event.stream_start x ∷ es)
    → IsParsed x es ts
parsed_by x es tree rest ts same e = grind (arith, nat_tests, stream_runs)

-- each document has its `---`
pub marked_stream : (x : yaml_encoding_t) (es : List EventBody) (span : Span) (ts us : List Token)
    → ts ≡ token_at (token.stream_start x) span ∷ us → Read es us → IsParsed x es ts
marked_stream x es span ts us same r =
    let tree : trees.Stream = record { encoding = x; start = span; first = no_first; documents = r.documents } in
    let rest = items_documents r.documents r.rest in
    let head : Given = (trees.event_at (event.stream_start x) span.from span.to, length (spell_documents r.documents r.rest)) in
    parsed_by x es tree r.rest ts (same ∙ ap (λ (y : List Token). token_at (token.stream_start x) span ∷ y) r.same)
    (ends_by (λ es. event.stream_start x ∷ es) (reading (head ∷ rest) None no_directives) (reading rest None no_directives) es
    (item_says head rest None no_directives no_directives (event.stream_start x) refl) r.gives)

pub record Undirected (o : Opening) : Type 0 where
  pub version : o.version ≡ None
  pub directives : o.directives ≡ []

undirected_by : (v : Option yaml_version_directive_t) (ds : List TagDirective)
    → (has_version v || has_directives ds) ≡ false → (v ≡ None) × (ds ≡ [])
undirected_by v ds e = grind (arith, nat_tests)

not_marked : (canonical fresh implicit directed : Bool)
    → (canonical || not (fresh && (implicit && not directed))) ≡ false → directed ≡ false
not_marked canonical fresh implicit directed e = grind (arith, nat_tests)

pub undirected : (s : Settings) (fresh : Bool) (o : Opening) → is_marked s fresh o ≡ false
    → Undirected o
undirected s fresh o e = let (v, d) = undirected_by o.version o.directives (not_marked s.canonical fresh o.implicit (is_directed o) e) in record { version = v; directives = d }

-- a first document without `---`
bare_stream : (s : Settings) (x : yaml_encoding_t) (d : Document) (ds : List Document)
    → is_marked s true d.opening ≡ false
    → is_left_out (context_in s d) false part.Item d.root ≡ false → opening_problem d.opening ≡ None
    → HasNoMark d.root → Behind s d ds
    → (span : Span) (ts us : List Token) → ts ≡ token_at (token.stream_start x) span ∷ us
    → token_bodies us ≡ opening_bodies s true d.opening (root_bodies s d (After s d ds))
    → IsParsed x (stream_reads s (d ∷ ds)) ts
unfolding documents_reads directives_bodies
bare_stream s x d ds bare some opening fine behind_root span ts us same e =
    let o = d.opening in
    let after = After s d ds in
    let plain = undirected s true o bare in
    let e2 = e ∙ ap (λ (b : Bool). version_bodies o.version (directives_bodies o.directives (start_bodies (not b) (root_bodies s d after)))) bare
    ∙ ap (λ (v : Option yaml_version_directive_t). version_bodies v (directives_bodies o.directives (root_bodies s d after))) plain.version
    ∙ ap (λ (t : List TagDirective). directives_bodies t (root_bodies s d after)) plain.directives in
    let n = nodes_grown (context_in s d) (resolving o opening) d.root fine false part.Item true some us after e2 in
    let b = closed s d.implicit_end (is_root_kept s d) ds n.rest (behind_root n.rest n.left) in
    let more = spell_documents b.documents b.rest in
    let last = items_documents b.documents b.rest in
    let ending = items_ends b.ends more last in
    let root = items_node n.tree (spell_ends b.ends more) ending in
    let tree : trees.Stream = record { encoding = x; start = span; first = trees.first n.tree b.ends; documents = b.documents } in
    let spelt = spell_node n.tree (spell_ends b.ends more) in
    let start : Given = (trees.event_at (event.stream_start x) span.from span.to, length spelt) in
    let head : Given = (item.item_at (item.document true) (trees.next spelt) (trees.next spelt), behind spelt) in
    let done = event.document_end (d.implicit_end && not (has_dots (is_root_kept s d) ds)) ∷ documents_reads s false ds in
    let second = ends_by (root_reads s d) (reading root None no_directives) (reading ending None no_directives) done (n.gives (spell_ends b.ends more) ending None no_directives (sym plain.directives)) (b.gives no_directives) in
    let opened = ends_by (λ es. event.document_start None [] true ∷ es) (reading (head ∷ root) None no_directives) (reading root None no_directives) (root_reads s d done)
    (item_says head root None no_directives no_directives (event.document_start None [] true) refl) second in
    let whole = ends_by (λ es. event.stream_start x ∷ es) (reading (start ∷ head ∷ root) None no_directives) (reading (head ∷ root) None no_directives) (event.document_start None [] true ∷ root_reads s d done)
    (item_says start (head ∷ root) None no_directives no_directives (event.stream_start x) refl) opened in
    parsed_by x (stream_reads s (d ∷ ds)) tree b.rest ts (same ∙ ap (λ (y : List Token). token_at (token.stream_start x) span ∷ y) (n.same ∙ ap (λ (y : List Token). spell_node n.tree y) b.same))
    (record {
      events = whole.events
          ∙ ap (λ (v : Option yaml_version_directive_t). event.stream_start x ∷ event.document_start v [] true ∷ root_reads s d done) (sym plain.version)
          ∙ ap (λ (t : List TagDirective). event.stream_start x ∷ event.document_start o.version t true ∷ root_reads s d done) (sym plain.directives)
          ∙ ap (λ (m : Bool). event.stream_start x ∷ event.document_start o.version o.directives (not m) ∷ root_reads s d done) (sym bare);
      ending = whole.ending;
    })

first_some : (m : Bool) (n : Bool) → m ≡ false → (not m && n) ≡ false → n ≡ false
first_some true n m e = absurd (cc)
first_some false n m e = e

first_stream : (s : Settings) (x : yaml_encoding_t) (d : Document) (ds : List Document) (m : Bool)
    → is_marked s true d.opening ≡ m → starts_with_nothing s (d ∷ ds) ≡ false
    → opening_problem d.opening ≡ None → HasNoMark d.root → Behind s d ds
    → (span : Span) (ts us : List Token) → ts ≡ token_at (token.stream_start x) span ∷ us
    → token_bodies us ≡ opening_bodies s true d.opening (root_bodies s d (After s d ds))
    → IsParsed x (stream_reads s (d ∷ ds)) ts
first_stream s x d ds true is some opening fine behind_root span ts us same e = marked_stream x (stream_reads s (d ∷ ds)) span ts us same (one_document s true d ds is opening fine behind_root us e)
first_stream s x d ds false is some opening fine behind_root span ts us same e =
    bare_stream s x d ds is (first_some (is_marked s true d.opening) (is_left_out (context_in s d) false part.Item d.root) is some) opening fine behind_root span ts us same e

pub tokens_parsed : PrettyTokensAreParsed
unfolding documents_bodies documents_reads
tokens_parsed s x [] fine some ts e =
    let t = take ts (token.stream_start x) (token.stream_end ∷ []) e in
    let r = stream_ends s t.rest t.left in
    marked_stream x (stream_reads s []) t.span ts t.rest t.same (record { documents = r.documents; rest = r.rest; same = r.same; gives = r.gives })
tokens_parsed s x (d ∷ ds) ((opening, root), fine) some ts e =
    let t = take ts (token.stream_start x) (opening_bodies s true d.opening (root_bodies s d (After s d ds))) e in
    first_stream s x d ds (is_marked s true d.opening) refl some opening root
    (λ vs y. behind_root s d.implicit_end (is_root_kept s d) ds vs (documents_parsed s d.implicit_end (is_root_kept s d) ds fine) y) t.span ts t.rest t.same t.left

-- ==== Documents that start with nothing: how they are recognized, and that their tokens don't say
-- them.

-- ---- recognized by the first events

-- an empty value is plain where that is asked and it is plain-implicit
abbrev no_bytes : List ℕ
no_bytes = []

empty_style : (unicode plain : Bool) (k : yaml_scalar_style_t)
    → is_plain (taken (allowed unicode (chars no_bytes)) k plain false false (length no_bytes == 0))
    ≡ (plain && is_asked_plain k)
unfolding taken allowed chars
empty_style unicode plain k = grind (arith, nat_tests)

-- under flags as a reader gives them each tag is written
pub written_is : (tag : Option (List ℕ)) (plain quoted : Bool) → HasScalarFlags tag plain quoted
    → kept_tag false (plain || quoted) tag ≡ tag
written_is tag plain quoted h = grind (arith, nat_tests)

abbrev LeftOut : Bool → Bool → Option (List ℕ) → Option (List ℕ) → List ℕ → Bool
    → yaml_scalar_style_t → Bool
LeftOut canonical unicode anchor tag value plain k =
    is_nothing false (if canonical then style.Double else taken (allowed unicode (chars value)) k (has tag || plain) false false (length value == 0)) value && is_bare anchor tag

told_by : (unicode : Bool) (anchor tag : Option (List ℕ)) (value : List ℕ) (plain : Bool)
    (k : yaml_scalar_style_t)
    → (is_bare anchor tag && (is_empty value && (plain && is_asked_plain k)))
    ≡ LeftOut false unicode anchor tag value plain k
told_by unicode None None [] plain k = sym (empty_style unicode plain k) ∙ sym (and-true _) ∙ sym (and-true _)
told_by unicode None None (c ∷ cs) plain k = sym (ap (λ (b : Bool). b && true) (and-false _))
told_by unicode None (Some t) value plain k = sym (and-false _)
told_by unicode (Some a) tag value plain k = sym (and-false _)

told_scalar : (canonical unicode : Bool) → canonical ≡ false
    → (anchor tag written : Option (List ℕ)) → written ≡ tag
    → (value : List ℕ) (plain : Bool) (k : yaml_scalar_style_t)
    → (is_bare anchor tag && (is_empty value && (plain && is_asked_plain k)))
    ≡ LeftOut canonical unicode anchor written value plain k
told_scalar canonical unicode pretty anchor tag written w value plain k = grind (arith, nat_tests, told_by)

told_opening : (canonical b n : Bool) → canonical ≡ false
    → (b && n) ≡ (not (canonical || not (true && b)) && n)
told_opening canonical b n pretty = grind (arith, nat_tests)

told_root : (s : Settings) → s.canonical ≡ false
    → (x : yaml_encoding_t) (d : Document) (ds : List Document) (n : Node) → d.root ≡ n
    → HaveReaderFlags (d ∷ ds)
    → begins_with_nothing (stream_events x (d ∷ ds)) ≡ starts_with_nothing s (d ∷ ds)
unfolding documents_events node_events style_of
told_root s pretty x d ds n is h7 = grind (arith, nat_tests, flags, told_opening, told_scalar, written_is, and-false)

pub is_told : BeginningIsTold
unfolding documents_events
is_told s pretty x h3 h4 = grind (arith, nat_tests, told_root, flags)

-- ---- lost

-- it has no tokens
nothing_stands : (ds : List TagDirective) (s : Style) (anchor tag : Option (List ℕ))
    (value : List ℕ) (quoted : Bool) (bs : List TokenBody)
    → (is_nothing false s value && is_bare anchor tag) ≡ true
    → (anchor_bodies anchor (tag_bodies ds tag
    (mark_bodies (not (has tag) && takes_mark quoted s) (scalar_bodies false s value bs)))) ≡ bs
nothing_stands ds s anchor tag value quoted bs none = grind (arith, nat_tests, false≢true)

root_stands : (s : Settings) (d : Document) (bs : List TokenBody) (n : Node) → d.root ≡ n
    → is_left_out (context_in s d) false part.Item n ≡ true
    → node_bodies (context_in s d) false part.Item true n bs ≡ bs
unfolding node_bodies
root_stands s d bs n is none = grind (arith, nat_tests, nothing_stands, false≢true)

-- such a root has one event
abbrev HasOneEvent : Node → Type 0
HasOneEvent n = (v : Scalar) × (n ≡ scalar_node v)

root_one : (s : Settings) (d : Document) (n : Node)
    → is_left_out (context_in s d) false part.Item n ≡ true → HasOneEvent n
root_one s d n none = grind (arith, nat_tests, false≢true)

-- a `...` where a document must come is refused
abbrev Refused : List Token → Type 0
Refused ts = (parsed_of ts).ending ≡ None → ⊥

both_are : (m n : Bool) → (not m && n) ≡ true → (m ≡ false) × (n ≡ true)
both_are m n e = grind (arith, nat_tests, false≢true)

-- the tokens after the stream's start are those after the root
behind_start : (s : Settings) (d : Document) (ds : List Document)
    → is_marked s true d.opening ≡ false
    → is_left_out (context_in s d) false part.Item d.root ≡ true → (us : List Token)
    → token_bodies us ≡ opening_bodies s true d.opening (root_bodies s d (After s d ds))
    → token_bodies us ≡ After s d ds
unfolding directives_bodies
behind_start s d ds bare none us e =
    let o = d.opening in
    let root = root_bodies s d (After s d ds) in
    let plain = undirected s true o bare in
    e ∙ ap (λ (b : Bool). version_bodies o.version (directives_bodies o.directives (start_bodies (not b) root))) bare
    ∙ ap (λ (v : Option yaml_version_directive_t). version_bodies v (directives_bodies o.directives root)) plain.version
    ∙ ap (λ (t : List TagDirective). directives_bodies t root) plain.directives
    ∙ root_stands s d (After s d ds) d.root refl none

-- a list isn't as long as a longer one
longer : (a b c d : EventBody) (es : List EventBody) → a ∷ es ≡ a ∷ b ∷ c ∷ d ∷ es → ⊥
longer a b c d es e =
    let h : length (a ∷ es) ≡ length (a ∷ b ∷ c ∷ d ∷ es) = ap (λ (x : List EventBody). length x) e in
    omega (arith, h)

-- the events of the documents, of which the first is lost
all_said : (x : yaml_encoding_t) (d : Document) (ds : List Document) (v : Scalar)
    → d.root ≡ scalar_node v
    → map says (stream_events x (d ∷ ds)) ≡ event.stream_start YAML_ANY_ENCODING
    ∷ event.document_start d.opening.version d.opening.directives true ∷ says (scalar v)
    ∷ event.document_end true ∷ map says (documents_events ds)
unfolding documents_events node_events
all_said x d ds v is = grind (arith, nat_tests)

lost_by : (s : Settings) (es : List Told) (x y : yaml_encoding_t) (d : Document)
    (ds : List Document) → emitter_events false es ≡ stream_events x (d ∷ ds) → HaveReaderFlags ds
    → AreParsable ds → (v : Scalar) → d.root ≡ scalar_node v
    → (explicit unended kept : Bool) (span : Span) (ts us : List Token)
    → ts ≡ token_at (token.stream_start y) span ∷ us → (p : Parsed s explicit unended kept ds us)
    → (ends : List Span) → p.ends ≡ ends → contents (parsed_of ts).events ≡ contents es → Refused ts
unfolding run feed reading
lost_by s es x y d ds same flags fine v root explicit unended kept span ts us start p [] none said ending =
    let spelt = p.same ∙ ap (λ (z : List Span). spell_ends z (spell_documents p.documents p.rest)) none in
    let (events, right) = marked_stream y (documents_reads s false ds) span ts us start (record { documents = p.documents; rest = p.rest; same = spelt; gives = p.gives }) in
    let read : contents (parsed_of ts).events ≡ event.stream_start YAML_ANY_ENCODING ∷ map says (documents_events ds) =
    contents_by (parsed_of ts).events ∙ ap (λ (bs : List EventBody). map content bs) events ∙ ap (λ (bs : List EventBody). event.stream_start YAML_ANY_ENCODING ∷ bs) (documents_same s false ds flags fine) in
    let whole = contents_said es ∙ ap (λ (fs : List Event). map says fs) same ∙ all_said x d ds v root in
    longer (event.stream_start YAML_ANY_ENCODING) (event.document_start d.opening.version d.opening.directives true) (says (scalar v)) (event.document_end true) (map says (documents_events ds)) (sym read ∙ said ∙ whole)
lost_by s es x y d ds same flags fine v root explicit unended kept span ts us start p (b ∷ bs) some said ending =
    let spelt = p.same ∙ ap (λ (z : List Span). spell_ends z (spell_documents p.documents p.rest)) some in
    subst Refused (sym (start ∙ ap (λ (z : List Token). token_at (token.stream_start y) span ∷ z) spelt)) (λ e. absurd cc) ending

pub tokens_lost : PrettyTokensAreLost
unfolding documents_bodies
tokens_lost s es x y [] same flags fine nothing ts e said ending = false≢true nothing
tokens_lost s es x y (d ∷ ds) same (f, flags) ((opening, g), fine) nothing ts e said ending =
    let (bare, none) = both_are (is_marked s true d.opening) (is_left_out (context_in s d) false part.Item d.root) nothing in
    let t = take ts (token.stream_start y) (opening_bodies s true d.opening (root_bodies s d (After s d ds))) e in
    let kept = is_root_kept s d in
    let p = behind_root s d.implicit_end kept ds t.rest (λ vs z. documents_parsed s d.implicit_end kept ds fine vs z) (behind_start s d ds bare none t.rest t.left) in
    let (v, root) = root_one s d d.root none in
    lost_by s es x y d ds same flags fine v root (not d.implicit_end) d.implicit_end kept t.span ts t.rest t.same p p.ends refl said ending
