-- The events that are read of a tree: the stream's start, its documents' events, its end.
use Rattle.std.proofs.Common.{◌≡◌, ℕ, Bool, true, false, List, [], ◌∷◌, map, Option, None, refl, ap, ◌∙◌}
use Rattle.yaml_round_content.proofs.Words.{yaml_mark_t, Token, Fault, Event, Root, item_at, Span, Given, Documents, First, Stream, spell_documents, items_maybe, items, Directives, no_directives, Reading, reading, spanning, events, tags_in, version_in, placed_node, placed_maybe, placed_documents, placed_first, end_of, placed_events, tree_events, events_told, Told, content_of, normalize_body, contents, stream_says, tree_content, next, spell_node, spell_ends, items_ends, items_documents, items_first, ends_at, ends_implicitly}
use Rattle.yaml_parse_model.specs.Events as event
use Rattle.yaml_emit_laws.specs.parse_grammar.Items as item
use Rattle.yaml_emit_laws.specs.parse_grammar.Trees as tree
use Rattle.yaml_round_content.proofs.Documents.{directives, directives_read, right_behind}
use Rattle.yaml_round_content.proofs.Placing.{ReadsAs, both, node_reads, maybe_reads}
use Rattle.yaml_round_content.proofs.Saying.{tree_said}

document_read : (implicit : Bool) (from to : yaml_mark_t) (left : ℕ) (gs : List Given)
    (f : Option Fault) (D : Directives)
    → ReadsAs (λ es. spanning (event.document_start D.version D.tags implicit) from to ∷ es)
    (reading ((item_at (item.document implicit) from to, left) ∷ gs) f D) (reading gs f D)
unfolding reading
document_read implicit from to left gs f D = record { right = λ e. e; reads = λ e. refl }

more_ends : (ends : List Span) (rest : List Token) (gs : List Given) (f : Option Fault)
    (D : Directives)
    → ReadsAs (λ es. spanning (event.document_end (ends_implicitly ends))
    (ends_at ends rest).start_mark (ends_at ends rest).end_mark ∷ es)
    (reading (items_ends ends rest gs) f D) (reading gs f no_directives)
unfolding reading
more_ends [] rest gs f D = record { right = λ e. e; reads = λ e. refl }
more_ends (s ∷ ends) rest gs f D = record { right = λ e. e; reads = λ e. refl }

documents_read : (d : Documents) (rest : List Token)
    → (reading (items_documents d rest) None no_directives).ending ≡ None
    → events_told (reading (items_documents d rest) None no_directives).events
    ≡ placed_events (placed_documents d rest) (end_of d)
unfolding reading
documents_read (tree.end_stream s) rest e = refl
documents_read (tree.document ds s root ends more) rest e =
    let gs : List Given = (item_at (item.document false) (tree.start_of ds s) s.to, _) ∷ items_maybe root Root s.to (spell_ends ends (spell_documents more rest)) (items_ends ends (spell_documents more rest) (items_documents more rest)) in
    let p : reading (items_documents (tree.document ds s root ends more) rest) None no_directives ≡ reading gs None (directives (version_in ds) (tags_in ds)) = directives_read ds _ gs None None [] e in
    let c : ReadsAs (λ es. spanning (event.document_start (version_in ds) (tags_in ds) false) (tree.start_of ds s) s.to ∷ events (placed_maybe (tags_in ds) root Root s.to (spell_ends ends (spell_documents more rest)))
    (spanning (event.document_end (ends_implicitly ends)) (ends_at ends (spell_documents more rest)).start_mark (ends_at ends (spell_documents more rest)).end_mark ∷ es))
    (reading gs None (directives (version_in ds) (tags_in ds))) (reading (items_documents more rest) None no_directives) =
    both (document_read false (tree.start_of ds s) s.to _ _ None (directives (version_in ds) (tags_in ds)))
    (both (maybe_reads root Root s.to _ _ None (directives (version_in ds) (tags_in ds))) (more_ends ends _ (items_documents more rest) None (directives (version_in ds) (tags_in ds)))) in
    let k : (reading gs None (directives (version_in ds) (tags_in ds))).ending ≡ None = right_behind _ _ p e in
    ap (λ (x : Reading). events_told x.events) p
    ∙ c.reads k
    ∙ ap (λ (es : List Event). spanning (event.document_start (version_in ds) (tags_in ds) false) (tree.start_of ds s) s.to ∷ events (placed_maybe (tags_in ds) root Root s.to (spell_ends ends (spell_documents more rest)))
    (spanning (event.document_end (ends_implicitly ends)) (ends_at ends (spell_documents more rest)).start_mark (ends_at ends (spell_documents more rest)).end_mark ∷ es)) (documents_read more rest (c.right k))

first_read : (x : First) (d : Documents) (rest : List Token)
    → (reading (items_first x (spell_documents d rest) (items_documents d rest)) None
    no_directives).ending ≡ None
    → events_told (reading (items_first x (spell_documents d rest) (items_documents d rest)) None
    no_directives).events ≡ placed_events
    (placed_first x (spell_documents d rest) (placed_documents d rest)) (end_of d)
first_read tree.no_first d rest e = documents_read d rest e
first_read (tree.first n ends) d rest e =
    let at : yaml_mark_t = next (spell_node n (spell_ends ends (spell_documents d rest))) in
    let c : ReadsAs (λ es. spanning (event.document_start None [] true) at at ∷ events (placed_node [] n (spell_ends ends (spell_documents d rest)))
    (spanning (event.document_end (ends_implicitly ends)) (ends_at ends (spell_documents d rest)).start_mark (ends_at ends (spell_documents d rest)).end_mark ∷ es))
    (reading (items_first (tree.first n ends) (spell_documents d rest) (items_documents d rest)) None no_directives) (reading (items_documents d rest) None no_directives) =
    both (document_read true _ _ _ _ None no_directives) (both (node_reads n _ _ None no_directives) (more_ends ends _ (items_documents d rest) None no_directives)) in
    c.reads e
    ∙ ap (λ (es : List Event). spanning (event.document_start None [] true) at at ∷ events (placed_node [] n (spell_ends ends (spell_documents d rest)))
    (spanning (event.document_end (ends_implicitly ends)) (ends_at ends (spell_documents d rest)).start_mark (ends_at ends (spell_documents d rest)).end_mark ∷ es)) (documents_read d rest (c.right e))

-- The events of a tree in order.
pub tree_reads : (t : Stream) (rest : List Token)
    → (reading (items t rest) None no_directives).ending ≡ None
    → events_told (reading (items t rest) None no_directives).events ≡ tree_events t rest
unfolding reading
tree_reads t rest e = ap (λ (es : List Event). spanning (event.stream_start t.encoding) t.start.from t.start.to ∷ es) (first_read t.first t.documents rest e)

told_contents : (gs : List Told)
    → contents gs ≡ map (λ (e : Event). content_of (normalize_body true e.body)) (events_told gs)
told_contents [] = refl
told_contents (g ∷ gs) = ap (λ (bs : List event.EventBody). content_of (normalize_body true g.0.body) ∷ bs) (told_contents gs)

-- The events of a tree in order say its content.
pub tree_says : (t : Stream) (rest : List Token)
    → (reading (items t rest) None no_directives).ending ≡ None
    → contents (reading (items t rest) None no_directives).events ≡ stream_says (tree_content t)
tree_says t rest e =
    told_contents (reading (items t rest) None no_directives).events
    ∙ ap (λ (es : List Event). map (λ (e : Event). content_of (normalize_body true e.body)) es) (tree_reads t rest e)
    ∙ (tree_said t rest).same
