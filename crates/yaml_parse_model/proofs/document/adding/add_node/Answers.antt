use Rattle.std.proofs.Common.{◌≡◌, ℕ, List, [], ◌∷◌, ◌++◌, map, ap, ◌∙◌, sym, subst, length, ◌<◌}
use Rattle.std.proofs.lemmas.List.{map-append, length-map}
use Rattle.yaml_parse_model.specs.Nodes.{Node, node_of, body_of, tag_of}
use Rattle.yaml_parse_model.specs.Documents.{Document, IsDocument, IsSoundNode, unplaced}
use Rattle.yaml_parse_model.specs.Sizes.{IsSized}
use Rattle.yaml_parse_model.specs.Views.{document_view}
use Rattle.yaml_parse_model.proofs.Sizing.{with_node_sized}
use Rattle.yaml_parse_model.proofs.Sound.{with_node_sound}
use Rattle.yaml_parse_model.proofs.document.adding.add_node.Goals as goal

pub invariant_of-document-2 : goal.invariant_of-document-2
invariant_of-document-2 c =
    let new = unplaced (body_of c.args.body) (tag_of c.args.tag) in
    let grown : map node_of c.push_entry.new.entries.items ≡ map node_of c.document.inside.parts.nodes.items ++ new ∷ []
    = ap (map node_of) c.in_ok-push_entry.ensures.0 ∙ map-append node_of _ _ in
    let sound : IsSoundNode (length (document_view c.document.inside).nodes) new
    = subst (λ (d : Document). IsSoundNode (length d.nodes) new) (sym c.document.view_is) c.requires.sound in
    let room : length (document_view c.document.inside).nodes < 2147483647
    = subst (λ (n : ℕ). n < 2147483647) (sym (length-map c.document.inside.parts.nodes.items node_of)) c.in_ok-push_entry.ensures.1 in
    subst (λ (ns : List Node). let d : Document = record (document_view c.document.inside) { nodes = ns } in IsDocument d × IsSized d) (sym grown) (
      with_node_sound (document_view c.document.inside) new c.document.invariant.0 sound,
      with_node_sized (document_view c.document.inside) new c.document.invariant.1 room c.requires.sized,
    )
