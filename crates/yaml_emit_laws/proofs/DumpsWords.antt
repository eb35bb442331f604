-- The words of the definitions, and the lemmas below, that the files of lemmas share.
pub use Rattle.std.proofs.lemmas.Bool.{cases_Bool, cases_eq}
pub use Rattle.std.proofs.lemmas.Bool.Decides.{nat_tests}
pub use Rattle.std.proofs.lemmas.List.{get_or-append_right, get_or-replicate, get_or_append_left, length-replicate, map-append}
pub use Rattle.std.proofs.lemmas.Option.{slice_get_within}
pub use Rattle.yaml_emit_graph.proofs.Joining.{root_joined, turns_joined}
pub use Rattle.yaml_emit_graph.specs.Graph.{Met, Numbering, again_at, anchor_of, body_of_id, graph_content, graph_root, graph_scalar, graph_start, is_collection, is_met, lead, meet, next_number, none_met, none_numbered, number_at, numbered_by, place_at, tag_at, tag_of_id, turns}
unfoldable pub use Rattle.yaml_emit_graph.specs.Graph.{dumped, name_of, numbered, numbers, pair_ids}
pub use Rattle.yaml_emit_graph.specs.Onward.{Rest, itself, node_by, nothing_left}
unfoldable pub use Rattle.yaml_emit_graph.specs.Onward.{content_by, items_by, over, pairs_by, root_onward, turns_onward, visits}
pub use Rattle.yaml_emit_graph.specs.declared.Turn.{Turn}
pub use Rattle.yaml_emit_graph.specs.declared.Turn.TheVariants.{Again, First, Leave}
pub use Rattle.yaml_emit_graph.specs.emit_layout.Content.{Event, Nodes, Pairs, Scalar, alias, alias_node, document_end, document_start, is_flow_mapping, is_flow_sequence, mapping_end, mapping_node, mapping_start, no_event, no_nodes, no_pairs, node, pair, scalar, scalar_node, sequence_end, sequence_node, sequence_start, stream_end, stream_events, stream_start}
unfoldable pub use Rattle.yaml_emit_graph.specs.emit_layout.Content.{documents_events, items_events, node_events, pairs_events}
pub use Rattle.yaml_emit_graph.specs.emit_layout.Grammar.{anchor_problem, ends_phase, kept_if, name_problem, node_problem, or_else, own_problem, tag_problem}
unfoldable pub use Rattle.yaml_emit_graph.specs.emit_layout.Grammar.{directives_problem, event_problem, last_problem, own_problems, place_problem, problem_by}
pub use Rattle.yaml_emit_graph.specs.emit_layout.Progress.{Due, Progress, at_place, behind_node, first_progress, inside, item_due, key_due, level_due, outer_due, problem_in, value_due}
unfoldable pub use Rattle.yaml_emit_graph.specs.emit_layout.Progress.{first_refusal, progress_after}
pub use Rattle.yaml_emit_graph.specs.emit_layout.declared.Expected.{Expected}
pub use Rattle.yaml_emit_graph.specs.emit_layout.declared.Problem.{Problem}
pub use Rattle.yaml_emit_graph.specs.emit_layout.parse_model.Nodes.{Node, NodeBody}
pub use Rattle.yaml_emit_graph.specs.emit_layout.parse_model.declared.yaml_mapping_style_t.{yaml_mapping_style_t}
pub use Rattle.yaml_emit_graph.specs.emit_layout.parse_model.declared.yaml_node_pair_t.{yaml_node_pair_t}
pub use Rattle.yaml_emit_graph.specs.emit_layout.parse_model.declared.yaml_sequence_style_t.{yaml_sequence_style_t}
pub use Rattle.yaml_emit_graph.specs.scan_types.Faults.{Fault}
pub use Rattle.yaml_emit_graph.specs.scan_model.declared.name.yaml_scalar_style_t.TheVariants.{YAML_ANY_SCALAR_STYLE}
pub use Rattle.yaml_emit_laws.specs.Dumps.{AgainsAre, AreApart, AreAsMany, AreLoadedNodes, HasKind, IsLoadedDocument, IsLoadedNode, IsNumbered, MeetsAgain, NumbersBack, as_content, as_contents, as_document, as_pairs, core_body, core_document, core_node, head_of, met_so, nowhere}
unfoldable pub use Rattle.yaml_emit_laws.specs.Dumps.{before_at}
pub use Rattle.yaml_emit_laws.specs.DumpsLaws.{AgainsAreTurns, DocumentsAreLoaded, DumpsLoadBack, DumpsNumberBack, MetAgainAreNumbered, NamesAreApart, NamesAreFound, NumbersAreApart, NumbersAreFound, VisitsNumberBack}
pub use Rattle.yaml_emit_laws.specs.StreamsLaws.{AreRight, AreRightTold, AreTagged, DumpedStreamsAreRight, DumpsAreRight, LoadsAreRight, MayTag, PassedAreFronts, PassedAreStreams, RightBody, RightDocument, RightFed, RightLoad, IsEmittable, RightStreamsHaveTexts, StepsKeepRight, TakenAreRight}
unfoldable pub use Rattle.yaml_emit_laws.specs.StreamsLaws.{progress_behind}
pub use Rattle.yaml_parse_laws_trees.specs.parse_model.Documents.{Document, change_place, map_tag, no_document, seq_tag, str_tag, with_node}
pub use Rattle.yaml_parse_loader.specs.Loading.{LoadStep, Loading, Open, aliased, behind, closed, filled, goes_on, load, loaded, nothing_loaded, refused, step, step_body}
pub use Rattle.yaml_parse_loader.specs.Numbering.{Anchored, Content, Contents, DocumentContent, Head, Numbered, alias_number, and_node, document_events, document_of, is_bang, is_same, item, last_with, loaded_tag, mapping, no_items, sequence, ◌>>=◌}
unfoldable pub use Rattle.yaml_parse_loader.specs.Numbering.{number, number_items, number_pairs}
pub use Rattle.yaml_parse_loader.specs.Order.{IsInPreorder, VisitsInPreorder, again, children, done, first, pair_numbers}
