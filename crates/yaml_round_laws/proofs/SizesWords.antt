-- The words of the definitions, and the lemmas below, that the files of lemmas share.
pub use Rattle.std.proofs.lemmas.Bool.Decides.{nat_tests}
pub use Rattle.std.proofs.lemmas.Bool.{and_parts, cases_Bool, eqb-true, leb-true, lt-ltb, ltb-false, ltb-true, ne_eqb}
pub use Rattle.std.proofs.lemmas.Str.{IsUtf8-from_is_utf8, chars-nil, encodes-chars, len_utf8_bounds, length-encode, length-le-encodes, scalars-chars}
pub use Rattle.std.specs.Char.{IsScalar}
pub use Rattle.std.specs.List.{flat_map, slice_range}
pub use Rattle.std.specs.Prelude.{encode_utf8, encode_utf8_all, negsuc, replicate, ℤ}
pub use Rattle.std.specs.Str.{all_scalars, bytes_eq, chars}
pub use Rattle.yaml_emit_laws.proofs.SizesLaid.{ascii_grows, by_content, line_grows, value_grows}
unfoldable pub use Rattle.yaml_emit_laws.specs.Depths.{ItemStandsAt, PartStandsAt, RootStandsAt, StandsAt}
pub use Rattle.yaml_emit_laws.specs.Sizes.{anchor_bytes, ascii, larger, most_bytes, most_of_char, most_of_escape, most_of_line, most_of_quoted, properties_bytes, tag_bytes, unit}
unfoldable pub use Rattle.yaml_emit_laws.specs.Sizes.{directives_bytes, most_of_documents, most_of_items, most_of_node, most_of_pairs, most_of_value, text_bytes}
pub use Rattle.yaml_emit_layout.specs.Nodes.{Context, MOST, context_of, stream_layout}
pub use Rattle.yaml_emit_layout.specs.Tags.{defaults, defines, has_shorter_prefix, in_force, primary, secondary, split_by, tag_spelling, unless_defined, uri_byte}
unfoldable pub use Rattle.yaml_emit_layout.specs.Tags.{directive_for, spelled, suffix_keeps, uri_text}
pub use Rattle.yaml_emit_layout.specs.Hex.{hex_2}
unfoldable pub use Rattle.yaml_emit_layout.specs.Hex.{hex_digit}
pub use Rattle.yaml_emit_layout.specs.declared.Encoding.{Encoding}
pub use Rattle.yaml_emit_layout.specs.declared.Encoding.TheVariants.{Utf16Be, Utf16Le, Utf8}
pub use Rattle.yaml_emit_layout.specs.declared.Settings.{Settings}
pub use Rattle.yaml_parse_grammar.specs.Items.{Properties}
pub use Rattle.yaml_parse_grammar.specs.Trees.{PropertyTokens, Stream, closing, properties_of, spell, spell_colon, spell_content, spell_directives, spell_documents, spell_ends, spell_entries, spell_first, spell_items, spell_maybe, spell_more, spell_node, spell_others, spell_pairs, spell_properties, token_at}
pub use Rattle.yaml_parse_grammar.specs.declared.Wants.{Wants}
pub use Rattle.yaml_round_content.specs.Canon.{canon_items, written_documents, written_node, written_nodes, written_pairs, written_scalar}
pub use Rattle.yaml_round_content.specs.Said.{Document, Node, Nodes, Pairs, stream_says, untagged}
unfoldable pub use Rattle.yaml_round_content.specs.Said.{documents_say, items_say, node_says, pairs_say}
pub use Rattle.yaml_round_content.specs.TreeContent.{anchor_of, behind_first, colon_of, documents_of, empty, entries_of, in_full, is_plain, items_of, mark_of, maybe_of, more_items_of, more_parts_of, node_of, others_of, pairs_of, parts_of, prefix_of, tag_of, tags_in, tree_content, with_content}
pub use Rattle.yaml_emit_layout.specs.Content.{Event, alias, alias_node, document_end, document_start, emitter_event, mapping_end, mapping_node, mapping_start, no_nodes, no_pairs, node, pair, scalar, scalar_node, sequence_end, sequence_node, sequence_start, stream_events}
unfoldable pub use Rattle.yaml_emit_layout.specs.Content.{documents_events, items_events, node_events, pairs_events}
pub use Rattle.yaml_emit_layout.specs.Text.{encode, is_deep}
unfoldable pub use Rattle.yaml_emit_layout.specs.Text.{char_bytes}
pub use Rattle.yaml_round_content.specs.parse_model.Events.{EventBody, TagDirective}
pub use Rattle.yaml_round_content.specs.Adapted.{adapted, cut, spells_text}
pub use Rattle.yaml_round_laws.specs.SizesLaws.{CanonicalTextsAreBounded, CanonicalTextsAreShort, ContentsAreBounded, DeepInputsAreLong, DepthsTakeBytes, LayoutsAreShort, ShortInputsKeepColumns, most_of_read, text_times}
pub use Rattle.yaml_scan_decode.specs.Characters.{character_at, is_allowed, is_high_surrogate, is_low_surrogate, unit_at, utf8_at}
unfoldable pub use Rattle.yaml_scan_decode.specs.Characters.{allowed_at, utf16_of}
pub use Rattle.yaml_scan_decode.specs.Decoding.{before, decoded_characters, in_utf8, led_by}
unfoldable pub use Rattle.yaml_scan_decode.specs.Decoding.{characters}
pub use Rattle.yaml_scan_decode.specs.Encodings.{encoding_of, mark_length}
pub use Rattle.yaml_scan_decode.specs.declared.offence.Character.{Character}
pub use Rattle.yaml_scan_decode.specs.declared.offence.Offence.{Offence}
pub use Rattle.yaml_scan_history.specs.History.{Candidate, as_key, flow_depth, entry_of, found_by, has, in_flow, inside, keyed, level_of, margin_at, marked, opens_of, start_of}
unfoldable pub use Rattle.yaml_scan_history.specs.History.{candidate, finished_tokens, mark_key}
pub use Rattle.yaml_scan_history.specs.Kinds.{is_end, is_start, is_value}
pub use Rattle.yaml_scan_history.specs.Next.{Ends, Fails, Next, Read, begun_behind, coming, extended, faults, first_fault_or, first_lexeme, gap_behind, kind_behind, lexeme_behind, no_start, place_behind, stale_before, with_end, word_behind}
unfoldable pub use Rattle.yaml_scan_history.specs.Next.{history, next}
pub use Rattle.yaml_scan_history.specs.Remaining.{SpelledText, body_by, body_in, body_of_word, front_ends, handed_out, kept_of, offline, own_tokens, start_tokens}
unfoldable pub use Rattle.yaml_scan_history.specs.Remaining.{all, handed, remaining}
pub use Rattle.yaml_scan_history.specs.Words.{WordText, blocked, body_said, directed, or_plain, plainly, tagged, valued}
unfoldable pub use Rattle.yaml_scan_history.specs.Words.{indicator_of, kind_at, lexeme_at}
pub use Rattle.yaml_scan_history.specs.declared.kind.Kind.{Kind}
pub use Rattle.yaml_scan_history.specs.declared.lexeme.Lexeme.{Lexeme}
pub use Rattle.yaml_scan_history.specs.declared.lexeme.Opens.{Opens}
pub use Rattle.yaml_scan_history.specs.Block.{BlockText, block_at, block_lines, block_with, column_of, style_at}
pub use Rattle.yaml_scan_history.specs.Header.{chomping_place, digit_of, digit_place, header_end, indicators}
unfoldable pub use Rattle.yaml_scan_history.specs.Header.{chomp_of, header_at, past_comment}
pub use Rattle.yaml_scan_history.specs.Value.{BlockLine, Empty, TextLine, Texts, Words, add_line, at_end, behind_text, block_value, space_or, starts_blank, texts_of, value_with}
unfoldable pub use Rattle.yaml_scan_history.specs.Value.{between}
pub use Rattle.yaml_scan_history.specs.scan_model.Breaks.{feed_at, is_document_indicator, is_feed}
unfoldable pub use Rattle.yaml_scan_history.specs.scan_model.Breaks.{break_value}
pub use Rattle.yaml_scan_history.specs.scan_types.Faults.{Fault}
pub use Rattle.yaml_scan_history.specs.scan_types.Marks.{break_width, byte, column_at, is_blank, is_blank_or_end, starts}
unfoldable pub use Rattle.yaml_scan_history.specs.scan_types.Marks.{break_of}
pub use Rattle.yaml_scan_history.specs.scan_types.Tokens.{Token, TokenBody}
pub use Rattle.yaml_scan_history.specs.scan_model.Wrong.{Wrong}
pub use Rattle.yaml_scan_history.specs.scan_model.declared.problem.ScanFault.{ScanFault}
pub use Rattle.yaml_scan_history.specs.scan_model.declared.name.yaml_encoding_t.{yaml_encoding_t}
pub use Rattle.yaml_scan_history.specs.scan_model.declared.name.yaml_encoding_t.TheVariants.{YAML_ANY_ENCODING, YAML_UTF16BE_ENCODING, YAML_UTF16LE_ENCODING}
pub use Rattle.yaml_scan_history.specs.Pieces.{Blank, Break, Kept, Line, Lines, Piece, folded, gap, is_empty, lines, rest_of, split_one, text, trim_end, trim_start, value}
pub use Rattle.yaml_scan_history.specs.Plain.{Ends as PlainEnds, Faulty as PlainFaulty, PlainSpot, PlainText, Takes, Words as PlainWords, ends_at, follows, is_bracket, is_nothing, leads, plain_at, plain_text, plain_with, with_piece, words_from}
unfoldable pub use Rattle.yaml_scan_history.specs.Plain.{spot_at as plain_spot_at, starts_plain, words}
pub use Rattle.yaml_scan_history.specs.Quoted.{Bad, Closing, Pieces, QuotedSpot, coded, double_quoted_at, escaped, followed, hex_value, is_scalar, quoted_at, single_quoted_at, valued as valued_pieces, with_front}
unfoldable pub use Rattle.yaml_scan_history.specs.Quoted.{escape_at, hex_len, pieces, quote_at, simple_escape, standing_at}
pub use Rattle.yaml_scan_history.specs.Anchors.{anchor_at, may_end_name, name_between}
pub use Rattle.yaml_scan_history.specs.Directives.{DirectiveText, Said, ValueText, break_end, comment_end, finished, handle_at, handle_between, is_tag, is_yaml, line_end_at, minor_at, name_between as directive_name_between, named_value_at, number_at, prefix_at, prefix_ended, tag_directive_at, then_at, value_at, with_line as with_line_end, with_major, with_prefix}
pub use Rattle.yaml_scan_history.specs.Tags.{TagText, bare, bracketed, ended, may_end_tag, name_end, tag_at, with_handle}
unfoldable pub use Rattle.yaml_scan_history.specs.Tags.{parts_at}
pub use Rattle.yaml_scan_laws.proofs.HistoryForward.{Stands, first_is, history_stands, not_ended, stand_in, takes_bytes}
pub use Rattle.yaml_scan_laws.proofs.NextForward.{placed_index}
