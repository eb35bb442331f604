-- For the dumps of loaded documents the canonical text of what they say is laid out.
use Rattle.std.proofs.Common.{◌≡◌, ℕ, Bool, true, List, [], ◌∷◌, map, Option, None, refl, sym, ap, subst, ◌∙◌}
use Rattle.yaml_round_content.proofs.ReadBackWords.{YAML_ANY_ENCODING, YAML_ANY_SCALAR_STYLE, Layout, written, own_problems, graph_scalar, graph_root, graph_content, AreRight, document_tree, canon_items, loads_of, trees_of_dumps, NodeFlagged, NodesFlagged, PairsFlagged, Normalize, normal_layout, dumped_streams, root_holds}
use Rattle.yaml_parse_model.specs.scan_model.declared.name.yaml_scalar_style_t.{yaml_scalar_style_t}
use Rattle.yaml_parse_model.specs.Nodes as model
use Rattle.yaml_parse_model.specs.Documents.{Document}
use Rattle.yaml_emit_laws.specs.emit_layout.Content as emit
use Rattle.yaml_round_content.specs.Said as content
use Rattle.yaml_round_content.specs.Normal.{ended, dump_events, DumpsAreLaidOut}
use Rattle.yaml_round_content.proofs.Sound.{documents_right}

-- ---- the walk: each scalar of a dump has a tag

scalar_flagged : (anchor : Option (List ℕ)) (tag value : List ℕ) (style : yaml_scalar_style_t)
    → NodeFlagged (emit.scalar_node (graph_scalar anchor tag value style))
scalar_flagged anchor tag value style e = absurd (cc)

root_flagged : (nodes : List model.Node) → NodeFlagged (graph_root nodes)
root_flagged nodes = root_holds NodeFlagged NodesFlagged PairsFlagged (λ anchor tag body. Unit {0})
    (record {
      alias = λ n. tt;
      none = tt;
      more = λ v vs a b. (a, b);
      empty = tt;
      another = λ k v ps a b c. (a, b, c);
      bare = λ anchor tag f. scalar_flagged anchor tag [] YAML_ANY_SCALAR_STYLE;
      scalar = λ anchor tag value style f. scalar_flagged anchor tag value style;
      sequence = λ anchor tag items style f vs b. b;
      mapping = λ anchor tag pairs style f ps b. b;
    }) nodes (λ k id. tt)

-- ---- documents

-- every end is implicit
dumps_normal : (ds : List Document) → Normalize (map graph_content (ended ds))
dumps_normal [] = tt
dumps_normal (d ∷ ds) = (root_flagged d.nodes, refl, dumps_normal ds)

-- the mark of an end is no part of what a document says
trees_ended : (ds : List Document) → trees_of_dumps (ended ds) ≡ trees_of_dumps ds
trees_ended [] = refl
trees_ended (d ∷ ds) = ap (λ (ts : List content.Document). document_tree (graph_content d) ∷ ts) (trees_ended ds)

-- Documents that are right are so with their ends said.
pub ended_right : (ds : List Document) → AreRight ds → AreRight (ended ds)
ended_right [] h = tt
ended_right (d ∷ ds) h = (record { tags = h.0.tags; opening = h.0.opening }, ended_right ds h.1)

pub laid_out : DumpsAreLaidOut
laid_out w k from input =
    let ds : List Document = (loads_of from input).documents in
    record {
      encoding = YAML_ANY_ENCODING;
      documents = map graph_content (ended ds);
      coded = refl;
      same = refl;
      right = subst (λ (b : Bool). own_problems b (dump_events ds) ≡ None) (sym k.canonical) (dumped_streams true YAML_ANY_ENCODING (ended ds) (ended_right ds (documents_right from input)));
      is = sym (ap (λ (a : Layout). written a) (normal_layout w k.canonical (map graph_content (ended ds)) (dumps_normal ds)) ∙ ap (λ (ts : List content.Document). canon_items w ts) (trees_ended ds));
    }
