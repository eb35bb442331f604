-- Such events are those of the content's documents, and nothing is wrong with them.
use Rattle.std.proofs.Common.{◌≡◌, ℕ, Bool, true, false, if◌then◌else◌, List, [], ◌∷◌, length, Option, Some, None, refl, ap, ◌∙◌}
use Rattle.std.specs.List.{list_all}
use Rattle.yaml_parse_model.specs.scan_model.declared.name.yaml_encoding_t.TheVariants.{YAML_ANY_ENCODING}
use Rattle.yaml_parse_model.specs.Events.{EventBody}
use Rattle.yaml_parse_model.specs.Events as event
use Rattle.yaml_emit_laws.specs.emit_layout.declared.problem.Problem.{Problem}
use Rattle.yaml_emit_laws.specs.emit_layout.declared.problem.Problem.TheVariants as problem
use Rattle.yaml_emit_laws.specs.emit_layout.Content as emit
use Rattle.yaml_emit_laws.specs.emit_layout.Grammar.{or_else, kept_tag, name_problem, anchor_problem, tag_problem, event_problem, last_problem, own_problem, own_problems}
use Rattle.yaml_parse_model.specs.scan_types.Classes.{is_alpha_byte}
use Rattle.yaml_round_content.specs.Said.{ScalarMark, untagged, tagged, Node, alias, scalar, sequence, mapping, Nodes, no_nodes, node, Pairs, no_pairs, pair, Document, node_says, items_say, pairs_say, documents_say, stream_says}
use Rattle.yaml_round_content.specs.Writable.{IsName, IsAnchor, IsTag, IsMark, IsWritable, AreItemsWritable, ArePairsWritable, AreWritable}
use Rattle.yaml_round_content.proofs.WritableContents.{are_writable as inputs_writable}
use Rattle.yaml_round_content.specs.Readable.{readable_scalar, readable_start, readable_node, readable_nodes, readable_pairs, is_unmarked, documents_from, readable_documents}
use Rattle.yaml_round_content.specs.Restyled.{Before, Within, root_position, readable_events, ReadableIsLaidOut}
use Rattle.yaml_emit_laws.proofs.Passing.{or_none}
use Rattle.yaml_emit_laws.proofs.Naming.{not_zero}

-- ---- the events

mutual
  unfolding node_says items_say pairs_say emit.node_events emit.items_events emit.pairs_events

  node_styled : (b : Bool) (n : Node) (es : List EventBody)
      → readable_events (root_position b) (node_says n es)
      ≡ emit.node_events (readable_node b n) (readable_events Within es)
  node_styled true (alias name) es = refl
  node_styled false (alias name) es = refl
  node_styled true (scalar anchor (untagged plain) value) es = refl
  node_styled false (scalar anchor (untagged plain) value) es = refl
  node_styled true (scalar anchor (tagged t) value) es = refl
  node_styled false (scalar anchor (tagged t) value) es = refl
  node_styled true (sequence anchor tag items) es = ap (λ (fs : List emit.Event). emit.sequence_start (readable_start anchor tag) ∷ fs) (items_styled items (event.sequence_end ∷ es))
  node_styled false (sequence anchor tag items) es = ap (λ (fs : List emit.Event). emit.sequence_start (readable_start anchor tag) ∷ fs) (items_styled items (event.sequence_end ∷ es))
  node_styled true (mapping anchor tag pairs) es = ap (λ (fs : List emit.Event). emit.mapping_start (readable_start anchor tag) ∷ fs) (pairs_styled pairs (event.mapping_end ∷ es))
  node_styled false (mapping anchor tag pairs) es = ap (λ (fs : List emit.Event). emit.mapping_start (readable_start anchor tag) ∷ fs) (pairs_styled pairs (event.mapping_end ∷ es))

  items_styled : (ns : Nodes) (es : List EventBody)
      → readable_events Within (items_say ns es)
      ≡ emit.items_events (readable_nodes ns) (readable_events Within es)
  items_styled no_nodes es = refl
  items_styled (node n ns) es = node_styled false n (items_say ns es) ∙ ap (λ (fs : List emit.Event). emit.node_events (readable_node false n) fs) (items_styled ns es)

  pairs_styled : (ps : Pairs) (es : List EventBody)
      → readable_events Within (pairs_say ps es)
      ≡ emit.pairs_events (readable_pairs ps) (readable_events Within es)
  pairs_styled no_pairs es = refl
  pairs_styled (pair k v ps) es =
      node_styled false k (node_says v (pairs_say ps es))
      ∙ ap (λ (fs : List emit.Event). emit.node_events (readable_node false k) fs) (node_styled false v (pairs_say ps es) ∙ ap (λ (fs : List emit.Event). emit.node_events (readable_node false v) fs) (pairs_styled ps es))

later_styled : (c : List Document)
    → readable_events Within (documents_say c) ≡ emit.documents_events (documents_from false c)
unfolding documents_say emit.documents_events
later_styled [] = refl
later_styled (d ∷ ds) =
    ap (λ (fs : List emit.Event). emit.document_start (record { version = d.version; directives = d.directives; implicit = false }) ∷ fs)
    (node_styled false d.root (event.document_end true ∷ documents_say ds) ∙ ap (λ (fs : List emit.Event). emit.node_events (readable_node false d.root) (emit.document_end true ∷ fs)) (later_styled ds))

documents_styled : (c : List Document)
    → readable_events Before (documents_say c) ≡ emit.documents_events (readable_documents c)
unfolding documents_say emit.documents_events
documents_styled [] = refl
documents_styled (d ∷ ds) =
    let b = is_unmarked true d in
    ap (λ (fs : List emit.Event). emit.document_start (record { version = d.version; directives = d.directives; implicit = b }) ∷ fs)
    (node_styled b d.root (event.document_end true ∷ documents_say ds) ∙ ap (λ (fs : List emit.Event). emit.node_events (readable_node b d.root) (emit.document_end true ∷ fs)) (later_styled ds))

stream_styled : (c : List Document)
    → readable_events Before (stream_says c)
    ≡ emit.stream_events YAML_ANY_ENCODING (readable_documents c)
stream_styled c = ap (λ (fs : List emit.Event). emit.stream_start YAML_ANY_ENCODING ∷ fs) (documents_styled c)

-- ---- nothing is wrong with them

name_right : (a b : Problem) (name : List ℕ) → IsName name → name_problem a b name ≡ None
name_right a b name (some, alphas) = ap (λ (z : Bool). if z then Some a else if list_all is_alpha_byte name then None else Some b) (not_zero (length name) some) ∙ ap (λ (z : Bool). if z then None else Some b) alphas

anchor_right : (anchor : Option (List ℕ)) → IsAnchor anchor → anchor_problem anchor ≡ None
anchor_right None h = refl
anchor_right (Some name) h = name_right problem.AnchorEmpty problem.AnchorCharacters name h

tag_right : (tag : Option (List ℕ)) → IsTag tag → tag_problem tag ≡ None
tag_right None h = refl
tag_right (Some t) (some, utf8) = ap (λ (z : Bool). if z then Some problem.TagEmpty else None) (not_zero (length t) some)

kept_right : (left_out : Bool) (tag : Option (List ℕ)) → IsTag tag
    → tag_problem (kept_tag false left_out tag) ≡ None
kept_right true tag h = refl
kept_right false tag h = tag_right tag h

scalar_right : (b : Bool) (anchor : Option (List ℕ)) (mark : ScalarMark) (value : List ℕ)
    → IsAnchor anchor → IsMark mark
    → own_problem false (emit.scalar (readable_scalar b anchor mark value)) ≡ None
unfolding event_problem last_problem
scalar_right b anchor (untagged true) value a m = or_none (or_else (anchor_problem anchor) None) None (or_none (anchor_problem anchor) None (anchor_right anchor a) refl) refl
scalar_right b anchor (untagged false) value a m = or_none (or_else (anchor_problem anchor) None) None (or_none (anchor_problem anchor) None (anchor_right anchor a) refl) refl
scalar_right b anchor (tagged t) value a (m, other) = or_none (or_else (anchor_problem anchor) (tag_problem (Some t))) None (or_none (anchor_problem anchor) (tag_problem (Some t)) (anchor_right anchor a) (tag_right (Some t) m)) refl

start_right : (anchor tag : Option (List ℕ)) → IsAnchor anchor → IsTag tag
    → or_else (or_else (anchor_problem anchor)
    (tag_problem (kept_tag false (readable_start anchor tag).implicit tag))) None ≡ None
start_right anchor tag a t = or_none _ None (or_none (anchor_problem anchor) _ (anchor_right anchor a) (kept_right (readable_start anchor tag).implicit tag t)) refl

mutual
  unfolding emit.node_events emit.items_events emit.pairs_events own_problems event_problem last_problem

  node_right : (b : Bool) (n : Node) → IsWritable n → (fs : List emit.Event)
      → own_problems false fs ≡ None
      → own_problems false (emit.node_events (readable_node b n) fs) ≡ None
  node_right b (alias name) h fs e = or_none (or_else (name_problem problem.AliasEmpty problem.AliasCharacters name) None) (own_problems false fs) (or_none (name_problem problem.AliasEmpty problem.AliasCharacters name) None (name_right problem.AliasEmpty problem.AliasCharacters name h) refl) e
  node_right b (scalar anchor mark value) (a, m, v) fs e = or_none (own_problem false (emit.scalar (readable_scalar b anchor mark value))) (own_problems false fs) (scalar_right b anchor mark value a m) e
  node_right b (sequence anchor tag items) (a, t, h) fs e = or_none _ _ (start_right anchor tag a t) (items_right items h (emit.sequence_end ∷ fs) e)
  node_right b (mapping anchor tag pairs) (a, t, h) fs e = or_none _ _ (start_right anchor tag a t) (pairs_right pairs h (emit.mapping_end ∷ fs) e)

  items_right : (ns : Nodes) → AreItemsWritable ns → (fs : List emit.Event)
      → own_problems false fs ≡ None
      → own_problems false (emit.items_events (readable_nodes ns) fs) ≡ None
  items_right no_nodes h fs e = e
  items_right (node n ns) (h, hs) fs e = node_right false n h (emit.items_events (readable_nodes ns) fs) (items_right ns hs fs e)

  pairs_right : (ps : Pairs) → ArePairsWritable ps → (fs : List emit.Event)
      → own_problems false fs ≡ None
      → own_problems false (emit.pairs_events (readable_pairs ps) fs) ≡ None
  pairs_right no_pairs h fs e = e
  pairs_right (pair k v ps) (hk, hv, hs) fs e =
      node_right false k hk (emit.node_events (readable_node false v) (emit.pairs_events (readable_pairs ps) fs)) (node_right false v hv (emit.pairs_events (readable_pairs ps) fs) (pairs_right ps hs fs e))

documents_right : (first : Bool) (c : List Document) → AreWritable c
    → own_problems false (emit.documents_events (documents_from first c)) ≡ None
unfolding emit.documents_events own_problems event_problem last_problem
documents_right first [] h = refl
documents_right first (d ∷ ds) (h, hs) =
    or_none _ _ h.opening (node_right (is_unmarked first d) d.root h.root (emit.document_end true ∷ emit.documents_events (documents_from false ds)) (documents_right false ds hs))

stream_right : (c : List Document) → AreWritable c
    → own_problems false (emit.stream_events YAML_ANY_ENCODING (readable_documents c)) ≡ None
unfolding own_problems event_problem last_problem
stream_right c h = documents_right true c h

-- ---- laid out

pub laid_out : ReadableIsLaidOut
laid_out w pretty from input c h =
    let same = ap (λ (es : List EventBody). readable_events Before es) h.says ∙ stream_styled c in
    record {
      encoding = YAML_ANY_ENCODING;
      documents = readable_documents c;
      coded = refl;
      same = same;
      right = ap (λ (es : List emit.Event). own_problems w.canonical es) same ∙ ap (λ (b : Bool). own_problems b (emit.stream_events YAML_ANY_ENCODING (readable_documents c))) pretty ∙ stream_right c (inputs_writable from input c h);
      is = refl;
    }
