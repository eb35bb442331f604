-- The words of the definitions, and the lemmas below, that the files of lemmas share.
pub use Rattle.std.proofs.lemmas.Bool.Decides.{nat_tests}
pub use Rattle.std.specs.Prelude.{codes, ◌≤◌}
pub use Rattle.yaml_emit_machine.proofs.Judging.{empty_out, first_out, open_next, or_none, or_some, ready_more, same_problem, shape_next, unless_none, unless_some}
pub use Rattle.yaml_emit_machine.specs.Held.{is_ready}
pub use Rattle.yaml_emit_machine.specs.Judged.{refusal_from, refused_at, shape_of, text_from, unless}
unfoldable pub use Rattle.yaml_emit_machine.specs.Judged.{laid, let_out, refusal_behind}
pub use Rattle.yaml_emit_layout.specs.Content.{Document, Event, Opening, Scalar, Start, alias, document_end, document_start, mapping_end, mapping_start, no_event, scalar, sequence_end, sequence_start, stream_end, stream_events, stream_start}
pub use Rattle.yaml_emit_layout.specs.Grammar.{or_else, own_problems, scalar_tag, start_tag}
unfoldable pub use Rattle.yaml_emit_layout.specs.Grammar.{event_problem, last_problem, place_problem, problem_by}
pub use Rattle.yaml_emit_layout.specs.Nodes.{Context, MOST, anchor_text, checked, comma, context_of, dashes, deep_if, deeper, directive_text, dots, indent_of, indented, is_directed, is_flow, is_kept, is_marked, is_simple_part, line_at, mark_text, page_at, properties_text, question, stream_layout, style_of, tag_text, version_text, version_word, wrap_at}
unfoldable pub use Rattle.yaml_emit_layout.specs.Nodes.{alias_layout, before_item, before_key, before_value, closer, directives_text, end_layout, scalar_layout, start_layout, stop_layout, turned}
pub use Rattle.yaml_emit_layout.specs.Progress.{Progress, problem_in}
unfoldable pub use Rattle.yaml_emit_layout.specs.Progress.{first_refusal, progress_after}
pub use Rattle.yaml_emit_layout.specs.State.{State, among, before_at, before_node, closer_at, depth_text, is_fresh, is_simple_event, next, piece, piece_at, place_at, placed, position_of, problem_at, start_at, start_text, stop_at, top_of}
unfoldable pub use Rattle.yaml_emit_layout.specs.State.{depth_at, next_at, opens_empty, text_at}
pub use Rattle.yaml_emit_layout.specs.declared.Level.{Level}
pub use Rattle.yaml_emit_layout.specs.declared.Phase.{Phase}
pub use Rattle.yaml_emit_layout.specs.declared.Phase.TheVariants.{Items, Keys, Value}
pub use Rattle.yaml_emit_layout.specs.declared.Problem.{Problem}
pub use Rattle.yaml_emit_layout.specs.parse_model.Events.{TagDirective}
pub use Rattle.yaml_emit_layout.specs.Layout.{Layout, Rest, after_block, after_text, blank, break, char, choose, gap, indent_to, indicator, is_past, is_white, keep, must_break, new_line, nothing_more, opener, order_mark, start, stay, when, word, wrap, written, ◌▹◌}
unfoldable pub use Rattle.yaml_emit_layout.specs.Layout.{blanks, letters, line}
pub use Rattle.yaml_emit_layout.specs.Scalars.{adds_break, block, block_header, block_text, chomp, chomp_mark, cut, cuts_at, cuts_block, digit_char, digit_mark, line_blank, plain, quote_char, single_quoted, text_char, value_break}
unfoldable pub use Rattle.yaml_emit_layout.specs.Scalars.{block_body, block_char, flow_body, flow_char, scalar_text}
pub use Rattle.yaml_emit_layout.specs.Text.{Item, char_bytes, deep, is_break, letter}
unfoldable pub use Rattle.yaml_emit_layout.specs.Text.{encode}
pub use Rattle.yaml_emit_layout.specs.declared.Cursor.{Cursor}
pub use Rattle.yaml_emit_layout.specs.declared.Encoding.{Encoding}
pub use Rattle.yaml_emit_layout.specs.declared.LineBreak.{LineBreak}
pub use Rattle.yaml_emit_layout.specs.declared.LineBreak.TheVariants.{Cr, CrLf, Lf}
pub use Rattle.yaml_emit_layout.specs.declared.Settings.{Settings}
pub use Rattle.yaml_round_laws.specs.PiecesLaws.{BlocksStandByLevels, CutsAreThere, CuttingsAreWholes, DocumentsStandByEnds, FrontsAreShown, StandInsStand, StandsAreThere, is_between}
unfoldable pub use Rattle.yaml_round_laws.specs.PiecesLaws.{are_between}
pub use Rattle.yaml_round_laws.specs.Pieces.{Cuts, LeadsToStand, Stand, added, first_stand, no_piece, whole}
unfoldable pub use Rattle.yaml_round_laws.specs.Pieces.{joined}
