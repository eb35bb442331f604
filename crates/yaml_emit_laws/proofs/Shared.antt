-- The words of the definitions, and the lemmas below, that the files of lemmas share.
pub use Rattle.std.proofs.Math.Bool.{and-false, or-false}
pub use Rattle.std.proofs.Math.Utf8.{scalar_cases}
pub use Rattle.std.proofs.lemmas.Bool.{and_from, and_parts, cases_Bool, cases_eq, cases_lt, eqb-true, lt-ltb, ltb-true, ne_eqb, not-true, or_cases, or_left, or_parts, or_right, true≢false}
pub use Rattle.std.proofs.lemmas.Bool.Decides.{nat_tests}
pub use Rattle.std.proofs.lemmas.List.{append_cancel_left, get_or_past, reverse-append, take_all}
pub use Rattle.std.proofs.lemmas.Str.{IsUtf8-append, IsUtf8-from_ascii, chars-append, encode_ascii, encodes-append, encodes-chars, scalars-chars}
pub use Rattle.std.specs.List.{list_all, list_any}
pub use Rattle.std.specs.Str.{all_scalars, chars}
pub use Rattle.yaml_emit_laws.specs.Bodies.{anchor_bodies, end_bodies, mark_bodies, opening_bodies, tag_bodies, tag_body, version_bodies}
unfoldable pub use Rattle.yaml_emit_laws.specs.Bodies.{directives_bodies, documents_bodies, items_bodies, node_bodies, pairs_bodies}
pub use Rattle.yaml_emit_laws.specs.Canonical.{opening_kinds, properties_kinds, put_if, stream_kinds, version_kinds}
unfoldable pub use Rattle.yaml_emit_laws.specs.Canonical.{directives_kinds, documents_kinds, items_kinds, node_kinds, pairs_kinds}
pub use Rattle.yaml_emit_laws.specs.ColumnsLaws.{BlocksForgetColumns, ColumnsAreByDepth, EscapesAreShort, EventsTellColumns, SizesAreByContent, ValuesStandByKeys}
pub use Rattle.yaml_emit_laws.specs.QuotedLaws.{QuotedIsReadBack}
pub use Rattle.yaml_emit_laws.specs.ReadBack.{StaysInLine, ValueIsReadBack, between_quotes, gap_width, is_one_line}
pub use Rattle.yaml_emit_laws.specs.Sizes.{anchor_bytes, ascii, larger, most_bytes, most_of_char, most_of_escape, most_of_line, most_of_quoted, properties_bytes, tag_bytes, unit}
unfoldable pub use Rattle.yaml_emit_laws.specs.Sizes.{directives_bytes, most_of_documents, most_of_items, most_of_node, most_of_pairs, most_of_value, text_bytes}
pub use Rattle.yaml_emit_laws.specs.Spelling.{LineEnd, LineTurn, MayStand, QuotedPart, doubled, end_bytes, end_means, feed, is_feed_end, is_fold, is_raw_blank, is_return, is_turn, joint, line_separator, may_be_next, may_be_raw, may_follow, meant, named, next_line, numbered, paragraph_separator, quoted, raw, return, return_feed}
unfoldable pub use Rattle.yaml_emit_laws.specs.Spelling.{IsSpelling, may_turn, meaning, number_behind, spelling, turn_bytes, turn_means}
pub use Rattle.yaml_emit_laws.specs.TagsLaws.{AreReadable, DirectivesAreRead, HaveUtf8, IsMarked, IsReadable, IsReadableDirective, IsShaped, IsTagReadBack, ReadableDirectivesAreAscii, ReadableTagsAreAscii, SplitTagsAreRead, WrittenDirectivesAreReadable, WrittenTagsAreReadable, are_ascii, directive_bytes, resolved_split}
pub use Rattle.yaml_emit_laws.specs.TextLaws.{CanonicalTextIsRead, IsReadAs, NodesAreWords, text_of_documents}
pub use Rattle.yaml_emit_laws.specs.Walk.{GoesBehindWords, Has, Left, Parts, Starts, Walks, WordStage, bytes, first, parts, told}
pub use Rattle.yaml_emit_laws.specs.Writable.{AreItemsWritable, ArePairsWritable, AreWritable, IsWritable, IsWritableAnchor, IsWritableOpening, IsWritableTag}
pub use Rattle.yaml_emit_layout.specs.Layout.{Layout, Rest, after_block, after_text, blank, break, char, choose, gap, indent_to, indicator, is_past, is_white, keep, must_break, new_line, nothing_more, opener, order_mark, start, stay, when, word, written, ◌▹◌}
unfoldable pub use Rattle.yaml_emit_layout.specs.Layout.{blanks, letters, line}
pub use Rattle.yaml_emit_layout.specs.declared.Cursor.{Cursor}
pub use Rattle.yaml_emit_layout.specs.declared.LineBreak.{LineBreak}
pub use Rattle.yaml_emit_layout.specs.declared.LineBreak.TheVariants.{Cr, CrLf, Lf}
pub use Rattle.yaml_emit_layout.specs.declared.Settings.{Settings}
pub use Rattle.yaml_scan_history.specs.History.{flow_depth, key_allowed, reached}
pub use Rattle.yaml_scan_history.specs.Kinds.{depth_after, is_end}
pub use Rattle.yaml_scan_history.specs.Remaining.{SpelledText, offline}
pub use Rattle.yaml_scan_history.specs.Words.{WordText, body_said, directed, tagged}
unfoldable pub use Rattle.yaml_scan_history.specs.Words.{indicator_of, kind_at, lexeme_at}
pub use Rattle.yaml_scan_history.specs.declared.kind.Kind.{Kind}
pub use Rattle.yaml_emit_layout.specs.scan_types.Marks.{break_width, byte, ends_break, is_blank, is_blank_or_end, starts}
unfoldable pub use Rattle.yaml_emit_layout.specs.scan_types.Marks.{break_of, column_at, ends_of}
pub use Rattle.yaml_emit_layout.specs.scan_model.Wrong.{Wrong}
pub use Rattle.yaml_scan_history.specs.Between.{Gap}
unfoldable pub use Rattle.yaml_scan_history.specs.Indicators.{is_document_end, is_document_start}
pub use Rattle.yaml_scan_history.specs.WordsLaws.{AnchorReads, GapReads}
pub use Rattle.yaml_scan_laws.specs.KeysTexts.{ReachEnd, Word, first_token, token_of, word_kinds}
unfoldable pub use Rattle.yaml_scan_laws.specs.KeysTexts.{WordsStand, lexemes}
pub use Rattle.yaml_emit_layout.specs.scan_types.Tokens.{Token, TokenBody}
pub use Rattle.yaml_emit_layout.specs.scan_model.declared.name.yaml_scalar_style_t.TheVariants.{YAML_DOUBLE_QUOTED_SCALAR_STYLE}
pub use Rattle.yaml_emit_layout.specs.Content.{Document, Event, Node, Nodes, Opening, Pairs, Scalar, Start, alias_node, document_end, mapping_end, mapping_node, mapping_start, no_nodes, no_pairs, node, pair, scalar, scalar_node, sequence_end, sequence_node, sequence_start, stream_events}
unfoldable pub use Rattle.yaml_emit_layout.specs.Content.{documents_events, items_events, node_events, pairs_events}
pub use Rattle.yaml_emit_layout.specs.Grammar.{between, directive_problem, has, has_handle, is_version, kept_if, opening_problem, or_else, prefix_problem, scalar_tag, start_tag, twice_problem, version_problem}
unfoldable pub use Rattle.yaml_emit_layout.specs.Grammar.{directives_problem, handle_problem}
pub use Rattle.yaml_emit_layout.specs.Nodes.{Context, MOST, anchor_text, are_no_pairs, are_none, block_indent_in, checked, comma, context_of, dashes, deep_if, deeper, directive_text, dots, indent_of, indented, is_directed, is_flow, is_marked, is_of_mapping, is_plain, is_simple_part, key_part, line_at, mark_text, page_at, position, properties_text, question, root_position, tag_text, version_text, version_word}
unfoldable pub use Rattle.yaml_emit_layout.specs.Nodes.{alias_layout, before_item, before_key, before_value, closer, directives_text, documents_layout, end_layout, is_simple, is_simple_alias, is_simple_scalar, is_simple_start, items_layout, node_layout, pairs_layout, scalar_layout, start_layout, stop_layout, stream_layout, style_of, turned}
pub use Rattle.yaml_emit_layout.specs.declared.level.NodePosition.{NodePosition}
pub use Rattle.yaml_emit_layout.specs.declared.problem.Problem.{Problem}
pub use Rattle.yaml_emit_layout.specs.Tags.{Split, defaults, has_shorter_prefix, in_force, keeps_byte, primary, secondary, shorthand, split_by, split_tag, tag_spelling, unless_defined, uri_byte, verbatim}
unfoldable pub use Rattle.yaml_emit_layout.specs.Tags.{defines, directive_for, spelled, suffix_keeps, uri_text}
pub use Rattle.yaml_emit_layout.specs.Hex.{hex_2}
unfoldable pub use Rattle.yaml_emit_layout.specs.Hex.{hex_digit as digit_of}
pub use Rattle.yaml_emit_layout.specs.Scalars.{adds_break, block, block_header, block_text, chomp, chomp_mark, cut, cuts_at, cuts_block, digit_char, line_blank, plain, single_quoted, text_char, value_break}
unfoldable pub use Rattle.yaml_emit_layout.specs.Scalars.{block_body, block_char, flow_body, flow_char, scalar_text}
pub use Rattle.yaml_emit_layout.specs.Text.{Item, deep, letter}
unfoldable pub use Rattle.yaml_emit_layout.specs.Text.{char_bytes, encode, is_deep}
pub use Rattle.yaml_emit_layout.specs.declared.Encoding.{Encoding}
pub use Rattle.yaml_emit_layout.specs.declared.Encoding.TheVariants.{Utf8}
pub use Rattle.yaml_emit_layout.specs.parse_model.Events.{TagDirective}
pub use Rattle.yaml_emit_layout.specs.scan_model.declared.name.yaml_encoding_t.{yaml_encoding_t}
pub use Rattle.yaml_emit_layout.specs.scan_model.declared.record.yaml_version_directive_t.{yaml_version_directive_t}
pub use Rattle.yaml_emit_layout.specs.Quoted.{quoted_text, escaped, fold, fold as fold_layout, hex_4, hex_8, is_empty, is_printable, may_fold}
unfoldable pub use Rattle.yaml_emit_layout.specs.Quoted.{escape_letter, escape_text, needs_escape, quoted_body, quoted_char}
pub use Rattle.yaml_emit_layout.specs.Spelling.{QuotedSpells, WritesSpelling, break_text}
unfoldable pub use Rattle.yaml_emit_layout.specs.Spelling.{in_front}
pub use Rattle.yaml_emit_layout.specs.declared.page.Page.{Page}
pub use Rattle.yaml_parse_grammar.specs.Resolve.{default_prefix, or_default, resolved}
pub use Rattle.yaml_scan_laws.proofs.Directives.{tag_directive_is_read, version_is_read}
pub use Rattle.yaml_scan_history.proofs.HasLemmas.{has_front, has_rest}
pub use Rattle.yaml_scan_laws.proofs.MarksLemmas.{column_end, within}
pub use Rattle.yaml_scan_laws.specs.WordsLaws.{LoneMarkReads, VersionReads}
pub use Rattle.yaml_scan_history.specs.Directives.{DirectiveText, Said, directive_at}
pub use Rattle.yaml_scan_history.specs.Tags.{TagText, may_end_tag, tag_at}
unfoldable pub use Rattle.yaml_scan_history.specs.Uris.{due_behind, is_punctuation, is_wide_punctuation}
pub use Rattle.yaml_scan_history.specs.Written.{HasAt, IsUri, UriPiece, are_alphas, are_gap, begins_lexeme, escape, has_no_mark, is_kept, piece_byte, piece_text, uri_bytes}
unfoldable pub use Rattle.yaml_scan_history.specs.Written.{capital}
pub use Rattle.yaml_scan_history.specs.Pieces.{Blank, Break, Kept, Line, Piece, folded, lines, rest_of, value}
pub use Rattle.yaml_scan_history.specs.Quoted.{Bad, Closing, Pieces, QuotedSpot, double_quoted_at, followed, is_scalar, quoted_at, single_quoted_at, valued, with_front}
unfoldable pub use Rattle.yaml_scan_history.specs.Quoted.{escape_at, hex_digit, hex_len, hex_value, pieces, quote_at, simple_escape, standing_at}
unfoldable pub use Rattle.yaml_scan_history.specs.scan_model.Breaks.{break_value, is_document_indicator}
pub use Rattle.yaml_scan_history.specs.scan_types.Classes.{is_break}
unfoldable pub use Rattle.yaml_scan_history.specs.scan_types.Classes.{is_alpha_byte, is_digit_byte, is_printable_by, is_special}
