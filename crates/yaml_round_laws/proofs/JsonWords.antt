-- The words of the definitions, and the lemmas below, that the files of lemmas share.
pub use Rattle.std.proofs.Math.Bool.{and-false, or-true}
pub use Rattle.std.proofs.lemmas.Bool.{and_parts, cases_Bool, lt-ltb, ne_eqb, or_cases, or_left, or_parts, or_right, true≢false}
pub use Rattle.std.proofs.lemmas.Bool.Decides.{nat_tests}
pub use Rattle.std.specs.List.{list_all}
pub use Rattle.yaml_emit_laws.proofs.Documents.{end_begins}
pub use Rattle.yaml_emit_laws.proofs.Places.{left_first, left_more, left_rest}
pub use Rattle.yaml_emit_laws.specs.PrettyBodies.{document_bodies, start_bodies, stop_bodies}
unfoldable pub use Rattle.yaml_emit_laws.specs.PrettyBodies.{json_bodies, json_items, json_pairs}
pub use Rattle.yaml_emit_laws.specs.Walk.{Left}
pub use Rattle.yaml_emit_layout.specs.Content.{Document, Node, Nodes, Pairs, Scalar, alias_node, emitter_event, mapping_node, no_nodes, node, scalar_node, sequence_node, stream_events}
unfoldable pub use Rattle.yaml_emit_layout.specs.Content.{documents_events, items_events, node_events, pairs_events}
pub use Rattle.yaml_round_content.specs.Said.{HasContent, stream_says, untagged}
unfoldable pub use Rattle.yaml_round_content.specs.Said.{documents_say, items_say, node_says, pairs_say}
pub use Rattle.yaml_scan_decode.specs.Encodings.{begins_high_first, begins_low_first, begins_utf8}
unfoldable pub use Rattle.yaml_scan_decode.specs.Encodings.{encoding_of, mark_length}
pub use Rattle.yaml_scan_decode.specs.Spelling.{Spells, spellings}
pub use Rattle.yaml_round_content.specs.scan_model.declared.name.yaml_encoding_t.{yaml_encoding_t}
pub use Rattle.yaml_round_content.specs.scan_model.declared.name.yaml_encoding_t.TheVariants.{YAML_ANY_ENCODING, YAML_UTF8_ENCODING}
pub use Rattle.yaml_round_content.specs.Adapted.{adapted}
pub use Rattle.yaml_round_content.specs.Adapting.{without_fault}
pub use Rattle.yaml_round_content.specs.TreeLaws.{Grown, event_bodies, parsed_of, token_bodies}
pub use Rattle.yaml_parse_grammar.specs.Resolve.{Reading, Told, gave, no_directives, node_event, scalar_event, settle}
unfoldable pub use Rattle.yaml_parse_grammar.specs.Resolve.{reading}
pub use Rattle.yaml_round_content.specs.parse_model.Events.{EventBody}
pub use Rattle.yaml_round_content.specs.scan_types.Tokens.{Token, TokenBody}
pub use Rattle.yaml_round_content.specs.parse_model.declared.yaml_mapping_style_t.TheVariants.{YAML_FLOW_MAPPING_STYLE}
pub use Rattle.yaml_round_content.specs.parse_model.declared.yaml_sequence_style_t.TheVariants.{YAML_FLOW_SEQUENCE_STYLE}
pub use Rattle.yaml_round_laws.specs.Exceptions.{AreUsual, IsUsual, IsUsualText, MembersAreUsual, are_kept, ends_line, has_break, has_tab, has_tab_below, is_bare, is_break, is_kept, is_near, is_refused}
pub use Rattle.yaml_round_laws.specs.Grammar.{AreElements, AreLetters, AreMembers, Elements, Exponent, HexDigit, IsExponent, IsFraction, IsJsonText, IsLetter, IsNumber, IsValue, Letter, Literal, Members, Number, Short, Sign, Text, Value, are_digits, are_white, array, backslash, backspace, carriage_return, code, coded, element, empty_array, empty_object, exponent_bytes, form_feed, fraction_bytes, hex_byte, is_digit, is_white, is_whole, last_element, last_member, letter_bytes, letters_bytes, line_feed, literal, literal_bytes, member, minus, named_false, named_null, named_true, no_sign, number, number_bytes, object, plus, quote, raw, short, short_byte, short_means, sign_bytes, slash, string, string_bytes, tab}
unfoldable pub use Rattle.yaml_round_laws.specs.Grammar.{elements_bytes, members_bytes, value_bytes}
pub use Rattle.yaml_round_laws.specs.JsonLaws.{IsReadAsValue, JsonIsRead, may_be_utf8}
pub use Rattle.yaml_round_laws.specs.Values.{Json, JsonPairs, Jsons, bare, content, contents, flow_start, json_content, json_document, json_elements, json_members, json_node, json_nodes, json_value, letter_means, letters_mean, list, no_pairs, nothing, one, pair, pair_contents, pairs, quoted_scalar, text}
pub use Rattle.yaml_scan_history.proofs.GapsRead.{break_parts, cr_width, lexeme_parts, no_bom, no_skip, some_width}
pub use Rattle.yaml_scan_history.proofs.HasLemmas.{Has, has, has_front}
pub use Rattle.yaml_scan_history.specs.History.{flow_depth, in_flow, is_fresh, key_allowed, margin_at}
unfoldable pub use Rattle.yaml_scan_history.specs.History.{indent}
pub use Rattle.yaml_scan_history.specs.Words.{WordText, plainly, valued}
unfoldable pub use Rattle.yaml_scan_history.specs.Words.{indicator_of, kind_at, lexeme_at}
pub use Rattle.yaml_scan_history.specs.scan_types.Marks.{break_width, byte, column_at, ends_break, is_blank, is_blank_or_end, mark_at, starts}
unfoldable pub use Rattle.yaml_scan_history.specs.scan_types.Marks.{break_of, ends_of}
pub use Rattle.yaml_scan_history.specs.scan_model.Wrong.{Wrong}
pub use Rattle.yaml_scan_history.specs.Plain.{PlainText, Takes, Words, after_white, follows, plain_at, plain_text, plain_with, spot_at, with_piece, words_from}
unfoldable pub use Rattle.yaml_scan_history.specs.Plain.{ends_at, is_bracket, is_indicator_byte, starts_plain, words}
unfoldable pub use Rattle.yaml_scan_history.specs.Indicators.{is_document_end, is_document_start}
pub use Rattle.yaml_scan_history.specs.Written.{HasAt, are_gap, begins_lexeme}
pub use Rattle.yaml_scan_laws.proofs.Signing.{chain, marks_come, no_end, no_percent, no_start, printed_begins}
pub use Rattle.yaml_scan_laws.proofs.Walking.{walk_key_starts, walk_key_stops, walk_says, walk_starts, walk_stops, walk_white, walk_word}
pub use Rattle.yaml_scan_laws.specs.Steps.{Comes, WordLeaves}
pub use Rattle.yaml_scan_laws.specs.Walks.{Done, WalkReads, WalkState, behind}
unfoldable pub use Rattle.yaml_scan_laws.specs.Walks.{LeaveClear}
pub use Rattle.yaml_scan_laws.specs.Values.{begins_value, first}
unfoldable pub use Rattle.yaml_scan_laws.specs.Values.{is_letter_or_digit, is_plain_value, is_value_byte}
