-- Trees of documents.
use Rattle.std.proofs.Common.{◌≡◌, ℕ, Bool, true, false, not, ◌&&◌, ◌||◌, List, [], ◌∷◌, ◌++◌, length, Option, Some, None, refl, sym, ap, ◌∙◌, append_assoc, append-nil, arith}
use Rattle.yaml_round_content.proofs.ReadBackWords.{nat_tests, yaml_mark_t, Token, TokenBody, EventBody, TagDirective, Fault, Block, Span, token_at, Given, spell_node, spell_directives, spell_ends, spell_documents, there, no_first, items_node, items_directives, items_ends, items_documents, items, Directives, no_directives, Reading, Settled, gave, noted, settle, read_on, reading, with_version, with_tag, is_known_version, Opening, Document, is_directed, opening_problem, node_bodies, version_bodies, directives_bodies, end_bodies, documents_bodies, node_reads, begins_directed, documents_reads, token_bodies, event_bodies, SaysTree, HasNoMark, AreParsable, parsed_of, NodesAreParsed, CanonicalTokensAreParsed, tags_resolve}
use Rattle.yaml_parse_model.specs.declared.yaml_version_directive_t.{yaml_version_directive_t}
use Rattle.yaml_emit_laws.specs.scan_types.Tokens as token
use Rattle.yaml_parse_model.specs.Events as event
use Rattle.yaml_emit_laws.specs.parse_grammar.Items as item
use Rattle.yaml_emit_laws.specs.parse_grammar.Trees as trees
use Rattle.yaml_emit_laws.specs.parse_grammar.Machine.{Outcome}
use Rattle.yaml_emit_laws.specs.parse_grammar.Remaining.{reading_of}
use Rattle.yaml_emit_laws.proofs.CompleteStream.{stream_runs}
use Rattle.yaml_round_content.proofs.CanonicalPremises.{IsFineVersion, AreFineTags, Resolves, fine_version, fine_tags}
use Rattle.yaml_round_content.proofs.Growing.{take, nodes_grown, on_says}

-- Where nothing is wrong with a document's start, its directives resolve.
pub resolving : (o : Opening) → opening_problem o ≡ None → Resolves o.directives
resolving = tags_resolve

pub nodes_parsed : NodesAreParsed
nodes_parsed o e = nodes_grown o.directives (resolving o e)

-- An item that settles is the reading's next event.
pub item_says : (g : Given) (gs : List Given) (f : Option Fault) (D E : Directives) (b : EventBody)
    → settle g.0 D ≡ gave b E → SaysTree (λ es. b ∷ es) (reading (g ∷ gs) f D) (reading gs f E)
unfolding reading
item_says g gs f D E b e = on_says (settle g.0 D) b E g.0 g.1 (λ x. reading gs f x) e

-- A directive is noted, and what follows is read.
pub note_reads : (g : Given) (gs : List Given) (f : Option Fault) (D E : Directives)
    → settle g.0 D ≡ noted E → reading (g ∷ gs) f D ≡ reading gs f E
unfolding reading
note_reads g gs f D E e = ap (λ (s : Settled). read_on s g.0 g.1 (λ x. reading gs f x)) e

-- ---- directives

pub record Directed (ts : List Token) (bs : List TokenBody) (D E : Directives) : Type 0 where
  pub directives : List trees.Directive
  pub rest : List Token
  pub same : ts ≡ spell_directives directives rest
  pub left : token_bodies rest ≡ bs
  pub gives : (more : List Token) (gs : List Given) (f : Option Fault)
      → reading (items_directives directives more gs) f D ≡ reading gs f E

tags_directed : (ds before : List TagDirective) (v : Option yaml_version_directive_t)
    → AreFineTags before ds → (ts : List Token) (bs : List TokenBody)
    → token_bodies ts ≡ directives_bodies ds bs
    → Directed ts bs (record { version = v; tags = before })
    (record { version = v; tags = before ++ ds })
unfolding directives_bodies
tags_directed [] before v fine ts bs e = grind (arith, nat_tests, append-nil)
tags_directed (d ∷ ds) before v (new, fine) ts bs e =
    let t = take ts (token.tag_directive d.handle d.prefix) (directives_bodies ds bs) e in
    let r = tags_directed ds (before ++ d ∷ []) v fine t.rest bs t.left in
    let D : Directives = record { version = v; tags = before } in
    record {
      directives = trees.handle t.span d.handle d.prefix ∷ r.directives;
      rest = r.rest;
      same = t.same ∙ ap (λ (y : List Token). token_at (token.tag_directive d.handle d.prefix) t.span ∷ y) r.same;
      left = r.left;
      gives = λ more gs f.
          note_reads (item.item_at (item.tag_directive d.handle d.prefix) t.span.from t.span.to, length (spell_directives r.directives more)) (items_directives r.directives more gs) f D
          (record { version = v; tags = before ++ d ∷ [] }) (ap (λ (o : Option (List ℕ)). with_tag o D d.handle d.prefix t.span.from) new)
          ∙ r.gives more gs f
          ∙ ap (λ (x : List TagDirective). reading gs f (record { version = v; tags = x })) (append_assoc before (d ∷ []) ds);
    }

-- Directives are read as they are spelled.
pub version_directed : (v : Option yaml_version_directive_t) (ds : List TagDirective)
    → IsFineVersion v → AreFineTags [] ds → (ts : List Token) (bs : List TokenBody)
    → token_bodies ts ≡ version_bodies v (directives_bodies ds bs)
    → Directed ts bs no_directives (record { version = v; tags = ds })
version_directed None ds known fine ts bs e = tags_directed ds [] None fine ts bs e
version_directed (Some v) ds known fine ts bs e =
    let t = take ts (token.version_directive v.major v.minor) (directives_bodies ds bs) e in
    let r = tags_directed ds [] (Some v) fine t.rest bs t.left in
    let D : Directives = record { version = Some v; tags = [] } in
    record {
      directives = trees.version t.span v.major v.minor ∷ r.directives;
      rest = r.rest;
      same = t.same ∙ ap (λ (y : List Token). token_at (token.version_directive v.major v.minor) t.span ∷ y) r.same;
      left = r.left;
      gives = λ more gs f.
          note_reads (item.item_at (item.version_directive v.major v.minor) t.span.from t.span.to, length (spell_directives r.directives more)) (items_directives r.directives more gs) f no_directives D (known_noted v t.span.from known)
          ∙ r.gives more gs f;
    }
  where
    known_noted : (v : yaml_version_directive_t) (at : yaml_mark_t)
        → is_known_version v.major v.minor ≡ true
        → with_version None [] v.major v.minor at ≡ noted (record { version = Some v; tags = [] })
    known_noted v at e = rw e refl

-- ---- documents

abbrev pub no_spans : List Span → Bool
no_spans [] = true
no_spans (s ∷ ss) = false

-- After `...` the reading goes on without directives.
pub ends_say : (ends : List Span) (more : List Token) (gs : List Given) (f : Option Fault)
    (D : Directives)
    → SaysTree (λ es. event.document_end (no_spans ends) ∷ es) (reading (items_ends ends more gs) f D)
    (reading gs f no_directives)
ends_say [] more gs f D = item_says _ gs f D no_directives (event.document_end true) refl
ends_say (s ∷ ends) more gs f D = item_says _ gs f D no_directives (event.document_end false) refl

-- the ends of the document before, and the documents after them
record Parsed (explicit unended : Bool) (ds : List Document) (ts : List Token) : Type 0 where
  ends : List Span
  documents : trees.Documents
  rest : List Token
  same : ts ≡ spell_ends ends (spell_documents documents rest)
  left : token_bodies rest ≡ []
  none : no_spans ends ≡ not (explicit || (unended && begins_directed ds))
  gives : (f : Option Fault)
      → (event_bodies (reading (items_documents documents rest) f no_directives)
      ≡ documents_reads ds) × ((reading (items_documents documents rest) f no_directives).ending
      ≡ f)

record Read (ds : List Document) (ts : List Token) : Type 0 where
  documents : trees.Documents
  rest : List Token
  same : ts ≡ spell_documents documents rest
  left : token_bodies rest ≡ []
  gives : (f : Option Fault)
      → (event_bodies (reading (items_documents documents rest) f no_directives)
      ≡ documents_reads ds) × ((reading (items_documents documents rest) f no_directives).ending
      ≡ f)

stream_ends : (ts : List Token) → token_bodies ts ≡ token.stream_end ∷ [] → Read [] ts
unfolding documents_reads reading
stream_ends ts e =
    let t = take ts token.stream_end [] e in
    record { documents = trees.end_stream t.span; rest = t.rest; same = t.same; left = t.left; gives = λ f. (refl, refl) }

-- a document from its directives on
one_document : (d : Document) (ds : List Document) → IsFineVersion d.opening.version
    → AreFineTags [] d.opening.directives → Resolves d.opening.directives → HasNoMark d.root
    → ((ts : List Token) → token_bodies ts
    ≡ end_bodies (not d.implicit_end) (documents_bodies d.implicit_end ds)
    → Parsed (not d.implicit_end) d.implicit_end ds ts) → (ts : List Token)
    → token_bodies ts ≡ version_bodies d.opening.version
    (directives_bodies d.opening.directives
    (token.document_start ∷ node_bodies d.opening.directives d.root
    (end_bodies (not d.implicit_end) (documents_bodies d.implicit_end ds))))
    → Read (d ∷ ds) ts
unfolding documents_reads
one_document d ds version tags resolves fine behind ts e =
    let o = d.opening in
    let E : Directives = record { version = o.version; tags = o.directives } in
    let after = end_bodies (not d.implicit_end) (documents_bodies d.implicit_end ds) in
    let dir = version_directed o.version o.directives version tags ts (token.document_start ∷ node_bodies o.directives d.root after) e in
    let t = take dir.rest token.document_start (node_bodies o.directives d.root after) dir.left in
    let n = nodes_grown o.directives resolves (Block None) d.root fine t.rest after t.left in
    let b = behind n.rest n.left in
    let more = spell_documents b.documents b.rest in
    let flag : no_spans b.ends ≡ (d.implicit_end && not (begins_directed ds)) = b.none ∙ flags d.implicit_end (begins_directed ds) in
    record {
      documents = trees.document dir.directives t.span (there n.tree) b.ends b.documents;
      rest = b.rest;
      same = dir.same
          ∙ ap (λ (y : List Token). spell_directives dir.directives y) (t.same ∙ ap (λ (y : List Token). token_at token.document_start t.span ∷ y) (n.same ∙ ap (λ (y : List Token). spell_node n.tree y) b.same));
      left = b.left;
      gives = λ f.
          let last = items_documents b.documents b.rest in
          let ending = items_ends b.ends more last in
          let root = items_node n.tree (spell_ends b.ends more) ending in
          let head : Given = (item.item_at (item.document false) (trees.start_of dir.directives t.span) t.span.to, length (spell_node n.tree (spell_ends b.ends more))) in
          let (events, none) = b.gives f in
          let first = item_says head root f E E (event.document_start o.version o.directives false) refl in
          let second = n.gives (spell_ends b.ends more) ending f E refl in
          let third = ends_say b.ends more last f E in
          let whole = dir.gives (token_at token.document_start t.span ∷ spell_node n.tree (spell_ends b.ends more)) (head ∷ root) f in (
            ap (λ (r : Reading). event_bodies r) whole ∙ first.events ∙ ap (λ (es : List EventBody). event.document_start o.version o.directives false ∷ es) (second.events ∙ ap (λ (es : List EventBody). node_reads d.root es) (third.events ∙ ap (λ (x : Bool). event.document_end x ∷ event_bodies (reading last f no_directives)) flag ∙ ap (λ (es : List EventBody). event.document_end (d.implicit_end && not (begins_directed ds)) ∷ es) events)),
            ap (λ (r : Reading). r.ending) whole ∙ first.ending ∙ second.ending ∙ third.ending ∙ none,
          );
    }
  where
    flags : (i b : Bool) → not (not i || (i && b)) ≡ (i && not b)
    flags true b = refl
    flags false b = refl

at_end : (unended : Bool) (ts : List Token) → token_bodies ts ≡ token.stream_end ∷ []
    → Parsed false unended [] ts
at_end unended ts e = let x = stream_ends ts e in record { ends = []; documents = x.documents; rest = x.rest; same = x.same; left = x.left; none = sym (off unended); gives = x.gives }
  where
    off : (b : Bool) → not (b && false) ≡ true
    off true = refl
    off false = refl

begun : (dots unended : Bool) (d : Document) (ds : List Document)
    → (unended && is_directed d.opening) ≡ dots
    → ((us : List Token) → token_bodies us
    ≡ version_bodies d.opening.version
    (directives_bodies d.opening.directives
    (token.document_start ∷ node_bodies d.opening.directives d.root
    (end_bodies (not d.implicit_end) (documents_bodies d.implicit_end ds)))) → Read (d ∷ ds) us)
    → (ts : List Token)
    → token_bodies ts ≡ end_bodies dots
    (version_bodies d.opening.version
    (directives_bodies d.opening.directives
    (token.document_start ∷ node_bodies d.opening.directives d.root
    (end_bodies (not d.implicit_end) (documents_bodies d.implicit_end ds)))))
    → Parsed false unended (d ∷ ds) ts
begun true unended d ds is one ts e =
    let t = take ts token.document_end _ e in
    let x = one t.rest t.left in
    record { ends = t.span ∷ []; documents = x.documents; rest = x.rest; same = t.same ∙ ap (λ (y : List Token). token_at token.document_end t.span ∷ y) x.same; left = x.left; none = sym (ap (λ (b : Bool). not b) is); gives = x.gives }
begun false unended d ds is one ts e = let x = one ts e in record { ends = []; documents = x.documents; rest = x.rest; same = x.same; left = x.left; none = sym (ap (λ (b : Bool). not b) is); gives = x.gives }

behind_root : (implicit : Bool) (ds : List Document) (ts : List Token)
    → ((us : List Token) → token_bodies us ≡ documents_bodies implicit ds
    → Parsed false implicit ds us)
    → token_bodies ts ≡ end_bodies (not implicit) (documents_bodies implicit ds)
    → Parsed (not implicit) implicit ds ts
behind_root true ds ts rest e = rest ts e
behind_root false ds ts rest e =
    let t = take ts token.document_end (documents_bodies false ds) e in
    let x = rest t.rest t.left in
    record { ends = t.span ∷ x.ends; documents = x.documents; rest = x.rest; same = t.same ∙ ap (λ (y : List Token). token_at token.document_end t.span ∷ y) x.same; left = x.left; none = refl; gives = x.gives }

documents_parsed : (unended : Bool) (ds : List Document) → AreParsable ds → (ts : List Token)
    → token_bodies ts ≡ documents_bodies unended ds → Parsed false unended ds ts
unfolding documents_bodies
documents_parsed unended [] fine ts e = at_end unended ts e
documents_parsed unended (d ∷ ds) ((opening, root), fine) ts e =
    begun (unended && is_directed d.opening) unended d ds refl (λ us x. one_document d ds (fine_version d.opening opening) (fine_tags d.opening opening) (resolving d.opening opening) root (λ vs y. behind_root d.implicit_end ds vs (documents_parsed d.implicit_end ds fine) y) us x) ts e

no_ends : (ends : List Span) → no_spans ends ≡ true → ends ≡ []
no_ends ends e = grind (arith, nat_tests)

pub tokens_parsed : CanonicalTokensAreParsed
tokens_parsed x ds fine ts e =
    let t = take ts (token.stream_start x) (documents_bodies false ds) e in
    let p = documents_parsed false ds fine t.rest t.left in
    let none = no_ends p.ends p.none in
    let s : trees.Stream = record { encoding = x; start = t.span; first = no_first; documents = p.documents } in
    let same : ts ≡ trees.spell s p.rest = t.same ∙ ap (λ (y : List Token). token_at (token.stream_start x) t.span ∷ y) (p.same ∙ ap (λ (y : List Span). spell_ends y (spell_documents p.documents p.rest)) none) in
    let whole : parsed_of ts ≡ reading (items s p.rest) None no_directives = ap (λ (y : List Token). parsed_of y) same ∙ ap (λ (o : Outcome). reading_of o no_directives) (stream_runs s p.rest None) in
    let (events, ending) = p.gives None in
    let first = item_says (trees.event_at (event.stream_start x) t.span.from t.span.to, length (spell_documents p.documents p.rest)) (items_documents p.documents p.rest) None no_directives no_directives (event.stream_start x) refl in
    (ap (λ (r : Reading). event_bodies r) whole ∙ first.events ∙ ap (λ (es : List EventBody). event.stream_start x ∷ es) events, ap (λ (r : Reading). r.ending) whole ∙ first.ending ∙ ending)
