-- The words of the definitions, and the lemmas below, that the files of lemmas share.
pub use Rattle.std.proofs.lemmas.Bool.Decides.{nat_tests}
pub use Rattle.std.proofs.lemmas.Bool.{cases_Bool}
pub use Rattle.std.proofs.lemmas.List.{append-nil, append_assoc, length-append, map-append, same_from_push}
pub use Rattle.yaml_parse_laws_trees.proofs.Following.{Front, Plain, body_at, brackets_are_closed, front_events, front_of, halted, items_of, parse_plain, plain, read_of, seen, step_items, told_by, went, windows_are_parsed}
pub use Rattle.yaml_parse_laws_trees.proofs.Parting.{end_at, parts}
pub use Rattle.yaml_parse_laws_trees.proofs.WindowsRefusing.{refused_fronts_stay}
pub use Rattle.yaml_parse_laws_trees.proofs.Staying.{ended_fronts_stay, refused_tokens_stay}
pub use Rattle.yaml_parse_laws_trees.specs.Depths.{depth_after, depth_behind}
pub use Rattle.yaml_parse_laws_trees.specs.WindowsLaws.{GoOn, parse_of}
pub use Rattle.yaml_parse_grammar.specs.Items.{Properties, RawEvent, RawEventBody, Shape, Tag, item_at}
pub use Rattle.yaml_parse_grammar.specs.Machine.{Fed, choice_at, content_taken, context_of, documents_taken, entries_taken, follows, given_by, go, initial, items_taken, joins, left_at, lone_below, more_taken, no_node, node_taken, pairs_taken, parts_documents, starts_content, starts_node, stop, stream_taken, taken_at, turn, wants_of, with_item, with_properties_taken}
unfoldable pub use Rattle.yaml_parse_grammar.specs.Machine.{feed, run}
pub use Rattle.yaml_parse_grammar.specs.Problems.{parser_fault}
unfoldable pub use Rattle.yaml_parse_grammar.specs.Problems.{context_place}
pub use Rattle.yaml_parse_grammar.specs.Resolve.{Directives, Reading, Settled, directive_for, gave, is_known_version, no_directives, noted, placed, refused, resolved, settle, settle_body, with_resolved, with_tag, with_version}
pub use Rattle.yaml_parse_grammar.specs.States.{State, Taken}
pub use Rattle.yaml_round_content.specs.parse_model.Events.{Event}
pub use Rattle.yaml_round_content.specs.Adapted.{cut, spells_text, with_token}
pub use Rattle.yaml_scan_history.specs.History.{Candidate, flow_depth, entry_of, found_by, inside, keyed, marked}
unfoldable pub use Rattle.yaml_scan_history.specs.History.{finished_tokens, mark_key}
pub use Rattle.yaml_scan_history.specs.Remaining.{Remaining, SpelledText, all, before, body_by, body_of_word, end_tokens, own_tokens, spell, start_tokens}
pub use Rattle.yaml_scan_history.specs.Indicators.{is_document_start}
pub use Rattle.yaml_round_content.specs.scan_types.Faults.{Fault}
pub use Rattle.yaml_round_content.specs.scan_types.Marks.{line_at, mark_at}
pub use Rattle.yaml_round_content.specs.scan_types.Tokens.{Token, TokenBody, block_end, document_start, stream_end, stream_start, type_of, zero_mark}
pub use Rattle.yaml_round_content.specs.scan_model.declared.name.yaml_encoding_t.{yaml_encoding_t}
pub use Rattle.yaml_round_content.specs.scan_model.declared.record.yaml_mark_t.{yaml_mark_t}
pub use Rattle.yaml_round_laws.specs.WindowsLaws.{AwaitsDocument, EarlyFaultsAreRead, EndedFaultsAreRead, IsAccepted, ReadingsAreFramed, RefusedFrontsAreRead, WindowsAreAccepted, WindowsAreRead, reading_in, tokens_in}
pub use Rattle.yaml_round_laws.specs.Moved.{IsMovedEnd, IsMovedFault, IsMovedMark, moved_event}
pub use Rattle.yaml_scan_laws.proofs.Behind.{TailSo, ended_front, ended_windows_are_scanned, line_tail}
pub use Rattle.yaml_scan_laws.proofs.Opening.{begun, begun_over}
pub use Rattle.yaml_scan_laws.proofs.StreamForward.{stream_ends, stream_starts}
pub use Rattle.yaml_scan_laws.proofs.Refused.{refused_fronts_are_scanned}
pub use Rattle.yaml_scan_laws.proofs.Windows.{at_cut, ended_told, windows_are_scanned}
pub use Rattle.yaml_scan_laws.specs.Cuts.{EndsIn, IsCut, IsEndCut, IsEndLine, LeadsToDirective}
pub use Rattle.yaml_scan_laws.specs.CutsLaws.{scan_of}
pub use Rattle.yaml_scan_laws.specs.Moved.{moved_fault, moved_mark, moved_token}
