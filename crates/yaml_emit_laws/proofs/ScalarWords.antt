-- The words of the definitions, and the lemmas below, that the files of lemmas share.
pub use Rattle.std.proofs.Math.Bool.{and-false, or-true}
pub use Rattle.std.proofs.lemmas.Bool.{and_from, and_parts, cases_Bool, cases_eq, cases_lt, eq-eqb, eqb-false, eqb-true, false≢true, le-ltb, lt-ltb, ne_eqb, not-true, or_cases, or_left, or_parts, or_right, true≢false}
pub use Rattle.std.proofs.lemmas.Bool.Decides.{nat_tests}
pub use Rattle.std.proofs.lemmas.List.{get_or_past}
pub use Rattle.std.proofs.lemmas.Str.{encode_ascii, encodes-append, encodes-chars, scalars-chars}
pub use Rattle.std.specs.Str.{all_scalars, chars}
pub use Rattle.yaml_emit_laws.specs.BlockLaws.{BlockAndLineRead, BlockAtPosition, BlockBeforeLine, BlockIsChosen, BlockIsLaidOut, BlockIsReadBack, BlockReads, BlockStands, block_style, from_indicator, is_keep, kind_of, margin_round, read_style}
pub use Rattle.yaml_emit_laws.specs.BlockLines.{AreInside, BodyLine, LineMark, NoWhite, StandsLeft, are_inside, bare, closing, full, line_bytes, line_text, mark_bytes, mark_char, mark_means, mark_text, own, paragraph, read_line, read_lines, separator}
unfoldable pub use Rattle.yaml_emit_laws.specs.BlockLines.{body_bytes, body_text}
pub use Rattle.yaml_emit_laws.specs.KeysLaws.{NearIsFresh, SimpleKeysAreNear, StaysNear}
pub use Rattle.yaml_emit_laws.proofs.Back.{char_escaped, front_append, front_more, front_one, moved_by, spaced_by}
pub use Rattle.yaml_emit_laws.proofs.Bytes.{AreCalm, calm_break, calm_end, calm_from, first_end, four_break, high_blank, later_break, low_break, low_end, second_end, third_end, three_break, two_break}
pub use Rattle.yaml_emit_laws.proofs.Chars.{encode_1, encode_2, encode_3, encode_4}
pub use Rattle.yaml_emit_laws.proofs.Escapes.{AreLow, end_of, escape_by_2, escape_by_4, escape_by_8, escape_by_letter, escape_calm, fold_bytes, fold_means, low_encodes, space_encodes, spaces_low}
pub use Rattle.yaml_emit_laws.proofs.Forms.{at_line}
pub use Rattle.yaml_scan_history.proofs.HasLemmas.{Has, has, has_at, has_front, has_rest, range_reads}
pub use Rattle.yaml_emit_layout.proofs.MarksLemmas.{column_more, line_more, past_break, within}
pub use Rattle.yaml_emit_laws.proofs.Places.{left_first, left_more, left_rest}
pub use Rattle.yaml_scan_history.proofs.PlainLemmas.{blank_inside, lead_break, leads-blank, leads-text, spot_blank, spot_break, spot_ends, spot_kept, white-blank, white-text}
pub use Rattle.yaml_emit_laws.proofs.QuotedReading.{column_more as column_on, column_start, ends_1, ends_2, in_line}
pub use Rattle.yaml_emit_layout.proofs.RunsLemmas.{InRun, no_space, past_stop, run_done, run_more, run_start, space_parts, text_parts}
pub use Rattle.yaml_emit_laws.proofs.Single.{after_blanks, blank_follows, blanks_are, bool_cases, broken, cut_needs, fold_follows, from_start, line_is, line_start, new_line_is, other_follows, shown_first, special_left}
pub use Rattle.yaml_emit_laws.proofs.Steps.{Sign, deep_bytes, not_start, sign_begins, sign_kind}
pub use Rattle.yaml_emit_laws.proofs.Values.{blanks_of, keeps, read_as, read_blank as raw_blank, read_kept as raw_kept, spelling_value}
unfoldable pub use Rattle.yaml_emit_laws.proofs.Values.{all_read_as, turns_read}
pub use Rattle.yaml_emit_laws.proofs.Words.{front_encodes, sign}
pub use Rattle.yaml_emit_laws.specs.QuotedLaws.{SingleSpellingReads}
pub use Rattle.yaml_emit_laws.specs.ReadBack.{between_single, is_one_line}
pub use Rattle.yaml_emit_laws.specs.Spelling.{LineEnd, LineTurn, MayStand, QuotedPart, doubled, end_bytes, end_means, feed, fold, is_feed_end, is_raw_blank, is_return, is_turn, joint, line_separator, may_be_next, may_be_raw, may_follow, meant, named, next_line, numbered, paragraph_separator, quoted, raw, return, return_feed, spelled}
unfoldable pub use Rattle.yaml_emit_laws.specs.Spelling.{IsSpelling, may_turn, meaning, spelling, turn_bytes, turn_means}
pub use Rattle.yaml_emit_laws.specs.Walk.{Left, bytes}
pub use Rattle.yaml_emit_layout.specs.Content.{Opening, Scalar, Start, alias_node, mapping_node, no_nodes, no_pairs, node, pair, scalar_node, sequence_node}
pub use Rattle.yaml_emit_layout.specs.Grammar.{has as is_some, kept_if, scalar_tag, start_tag}
pub use Rattle.yaml_emit_layout.specs.Nodes.{Context, MOST, anchor_text, checked, context_of, deeper, indent_of, indented, is_flow, is_plain, is_simple_part, page_at, position, properties_size, properties_text, tag_text, text_size, written_size}
unfoldable pub use Rattle.yaml_emit_layout.specs.Nodes.{alias_layout, closer, is_simple, is_simple_alias, is_simple_scalar, is_simple_start, items_layout, node_layout, pairs_layout, scalar_layout, style_of}
pub use Rattle.yaml_emit_layout.specs.declared.level.NodePosition.{NodePosition}
pub use Rattle.yaml_emit_layout.specs.Layout.{Layout, Rest, after_text, blank, blanks, char, gap, indent_to, is_past, must_break, new_line, opener, stay, when, word, ◌▹◌}
unfoldable pub use Rattle.yaml_emit_layout.specs.Layout.{letters, line}
pub use Rattle.yaml_emit_layout.specs.Quoted.{escape_text, escaped, first, is_empty, is_printable, needs_escape, quoted_char}
unfoldable pub use Rattle.yaml_emit_layout.specs.Quoted.{quoted_body}
pub use Rattle.yaml_emit_layout.specs.Scalars.{adds_break, block_text, chomp_mark, chomp_of, cuts_at, cuts_block, digit_char, ends_in_break, line_blank, plain, quote_char, text_char, value_break}
unfoldable pub use Rattle.yaml_emit_layout.specs.Scalars.{behind_breaks, block_body, block_char, chomp, flow_body, flow_char, scalar_text}
pub use Rattle.yaml_emit_layout.specs.Spelling.{break_text}
unfoldable pub use Rattle.yaml_emit_layout.specs.Spelling.{in_front}
pub use Rattle.yaml_emit_layout.specs.Style.{behind, block_or, ends_in_space, ends_word, is_break_space, is_indicator, is_not_flow, is_not_plain, is_special, plain_fits, plain_or, single_or, starts_badly}
unfoldable pub use Rattle.yaml_emit_layout.specs.Style.{allowed, last_or, somewhere, taken}
pub use Rattle.yaml_emit_layout.specs.Text.{Item, is_break, letter}
pub use Rattle.yaml_emit_layout.specs.declared.Allowed.{Allowed}
pub use Rattle.yaml_emit_layout.specs.declared.Cursor.{Cursor}
pub use Rattle.yaml_emit_layout.specs.declared.LineBreak.{LineBreak}
pub use Rattle.yaml_emit_layout.specs.declared.LineBreak.TheVariants.{Cr, CrLf, Lf}
pub use Rattle.yaml_emit_layout.specs.declared.Page.{Page}
pub use Rattle.yaml_emit_layout.specs.declared.Settings.{Settings}
pub use Rattle.yaml_emit_layout.specs.declared.Style.{Style}
pub use Rattle.yaml_emit_layout.specs.declared.page.Chomp.{Chomp, Chomp as Chomping}
pub use Rattle.yaml_scan_history.specs.Words.{WordText, blocked, plainly, valued}
unfoldable pub use Rattle.yaml_scan_history.specs.Words.{indicator_of, kind_at, lexeme_at}
pub use Rattle.yaml_scan_history.specs.Pieces.{Blank, Break, Kept, Piece, value as value_of}
pub use Rattle.yaml_scan_history.specs.Plain.{Ends, PlainSpot, PlainText, Takes, after_white, follows, is_nothing, leads, plain_at, spot_at, with_piece, words_from}
unfoldable pub use Rattle.yaml_scan_history.specs.Plain.{ends_at, is_bracket, is_indicator_byte, starts_plain, words}
pub use Rattle.yaml_scan_history.specs.Indicators.{is_thrice}
unfoldable pub use Rattle.yaml_scan_history.specs.Indicators.{is_document_end, is_document_start}
pub use Rattle.yaml_scan_history.specs.Written.{HasAt, are_alphas, are_gap, begins_lexeme, has_break}
unfoldable pub use Rattle.yaml_scan_laws.specs.PlainLaws.{ends_plain}
pub use Rattle.yaml_emit_layout.specs.scan_model.Breaks.{feed_at, is_feed}
unfoldable pub use Rattle.yaml_emit_layout.specs.scan_model.Breaks.{break_value, is_document_indicator}
pub use Rattle.yaml_emit_layout.specs.scan_types.Classes.{is_bom, is_break as breaks_at}
unfoldable pub use Rattle.yaml_emit_layout.specs.scan_types.Classes.{any_below, is_alpha_byte, is_digit_byte}
pub use Rattle.yaml_emit_layout.specs.scan_types.Marks.{break_width, byte, column_at, ends_break, is_blank, is_blank_or_end, mark_at, starts}
unfoldable pub use Rattle.yaml_emit_layout.specs.scan_types.Marks.{break_of, line_at}
pub use Rattle.yaml_emit_layout.specs.scan_model.Runs.{is_space_there, is_text, line_end}
pub use Rattle.yaml_emit_layout.specs.scan_model.Wrong.{Wrong}
pub use Rattle.yaml_emit_layout.specs.scan_model.declared.name.yaml_scalar_style_t.{yaml_scalar_style_t}
pub use Rattle.yaml_scan_history.proofs.StackingLemmas.{space_or_some, stack_empty}
pub use Rattle.yaml_scan_history.specs.Header.{chomping_place, digit_place, header_at, header_end}
unfoldable pub use Rattle.yaml_scan_history.specs.Header.{chomp_of as chomp_at, digit_of, indicators, is_chomping, past_comment}
pub use Rattle.yaml_scan_history.specs.Lines.{Line, Lines, line_spot, line_then, spot_behind, with_line}
unfoldable pub use Rattle.yaml_scan_history.specs.Lines.{lines_from, spaces}
unfoldable pub use Rattle.yaml_scan_history.specs.Value.{stacked_with}
pub use Rattle.yaml_scan_history.specs.Value.{BlockLine, Empty, Words, at_end, behind_text, block_value, starts_blank, texts_of, value_with}
pub use Rattle.yaml_emit_layout.proofs.Sinks.{cond_true, cond_false}
unfoldable pub use Rattle.yaml_scan_history.specs.Value.{between}
