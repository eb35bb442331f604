-- The words of the definitions, and the lemmas below, that the files of lemmas share.
pub use Rattle.std.proofs.Math.Bool.{and-false, and-true}
pub use Rattle.std.proofs.lemmas.Bool.{and_parts, cases_Bool, cases_lt, eq-eqb, false≢true, lt-ltb, ltb-false, not-false, not-true, or_left, or_right, true≢false}
pub use Rattle.std.proofs.lemmas.Bool.Decides.{nat_tests}
pub use Rattle.std.proofs.lemmas.Str.{encode_ascii}
unfoldable pub use Rattle.std.specs.Str.{chars}
pub use Rattle.yaml_emit_laws.specs.NodeBodies.{is_bare, is_empty, is_flow_at, is_keep, is_nothing, is_root_kept, keeps, mapping_closes, mapping_opens, opening_bodies, place, root_bodies, scalar_bodies, scalar_kept, sequence_closes, sequence_opens, stream_bodies, style_at, style_named, takes_mark, value_bodies}
unfoldable pub use Rattle.yaml_emit_laws.specs.NodeBodies.{documents_bodies, items_bodies, items_kept, node_bodies, node_kept, pairs_bodies, pairs_kept}
pub use Rattle.yaml_emit_laws.specs.DocLaws.{DocumentsAreRead, PrettyTextIsRead}
pub use Rattle.yaml_emit_laws.specs.Flows.{BracketsFollow, FollowsIn, GoesIn, IsClear, KeyWalksIn, KeysAreWalkedIn, WalksIn}
pub use Rattle.yaml_emit_laws.specs.Nodes.{BlockScalarsAreWalked, BracketsAreWalked, Ending, IsPretty, KeyWalks, LeavesAreWalked, NodeWalks, NodesAreWalked, PartedBehind, PropertiesAreWalked, ShownEnds, ShowsNode, SimpleKeysAreWalked, block_position, column_round, is_block, is_bracketed, is_place}
pub use Rattle.yaml_emit_laws.specs.Spoken.{AllFit, Behind, Fits, SaysTokens, Spoken, WordStands, all_bodies, all_bytes, ends_name, is_text, spoken_bytes}
pub use Rattle.yaml_emit_laws.specs.NodeWalk.{Answer, BareIndicator, Entry, Follows, GoesBehindNode, IsLone, LineEndsNode, LineIsWalked, Lined, LinedUp, MarkIsWalked, NoFeed, NodeStage, PlainIsWalked, Question, SingleIsWalked, Walks, mark_body, mark_byte, mark_level}
unfoldable pub use Rattle.yaml_emit_laws.specs.NodeWalk.{no_comment}
pub use Rattle.yaml_emit_laws.proofs.Lines.{blanks_column, blanks_kept}
pub use Rattle.yaml_emit_laws.proofs.NearKeys.{Above, above_append, alphas_calm, calm_all, digit_above, handle_above, kept_above, kept_writable, keys_near, marked_ascii}
pub use Rattle.yaml_emit_laws.proofs.PlainStart.{plain_back}
pub use Rattle.yaml_emit_laws.proofs.Standing.{high_starts, low_starts}
pub use Rattle.yaml_emit_laws.proofs.Stopping.{are_words, behind_lines, blanks_bare, blanks_white, break_low, goes_on, has_gap, quoted_stands, single_kind, stands, stops_end, what_stops}
pub use Rattle.yaml_emit_laws.specs.BlockLaws.{block_style, from_indicator, is_keep as keeps_all, margin_round, read_style}
pub use Rattle.yaml_emit_laws.specs.BlockPassing.{BlockPassed, begins_white as begins_blank, behind_line}
pub use Rattle.yaml_emit_laws.specs.PlainLaws.{PlainIsBack, PlainIsReadBack, may_be_plain}
pub use Rattle.yaml_emit_laws.specs.SingleLaws.{SingleIsBack, SingleLinesAreReadBack}
pub use Rattle.yaml_emit_laws.specs.StandsLaws.{PlainHasGap, PlainStands, ScalarsAreWords, SingleStands}
pub use Rattle.yaml_emit_laws.specs.Stops.{begins_mark, begins_solid, begins_white, is_gap_byte}
unfoldable pub use Rattle.yaml_emit_laws.specs.Stops.{stops_plain_at, white_of}
pub use Rattle.yaml_emit_laws.specs.StylesLaws.{StylesAreAllowed}
pub use Rattle.yaml_emit_laws.proofs.Ascii.{alphas_ascii, directive_ascii, spelled_ascii}
pub use Rattle.yaml_emit_laws.proofs.Bytes.{AreCalm, calm_end, calm_from}
pub use Rattle.yaml_emit_laws.proofs.Documents.{Thrice, behind_three, end_begins, end_zero, has_all, line_blank, three, thrice_dash, thrice_dot}
pub use Rattle.yaml_emit_laws.proofs.Forms.{at_line}
pub use Rattle.yaml_emit_laws.proofs.Joining.{none_all, written_directives, written_readable}
pub use Rattle.yaml_emit_layout.proofs.MarksLemmas.{column_end, line_end, line_more}
pub use Rattle.yaml_emit_laws.proofs.Places.{has_at, has_front, left_first, left_more, left_rest}
pub use Rattle.yaml_emit_laws.proofs.Prettily.{pretty, pretty as pretty_of, same_settings}
pub use Rattle.yaml_emit_laws.proofs.QuotedWhole.{quoted_is_back}
pub use Rattle.yaml_emit_laws.proofs.Single.{after_blanks, line_is, line_start}
pub use Rattle.yaml_emit_laws.proofs.Steps.{Sign, behind_feed, behind_return, deep_bytes, left_letter, length_more, letter_low, sign_begins, sign_kind}
pub use Rattle.yaml_emit_laws.proofs.Tags.{letters_are, mark_kind, said_tag, text_is}
pub use Rattle.yaml_emit_laws.proofs.TagsReading.{split_read}
pub use Rattle.yaml_emit_laws.proofs.TextLines.{both_width, feed_width, left_byte, return_width}
pub use Rattle.yaml_emit_laws.proofs.Words.{alias_kind, anchor_kind, front_encodes, lettered_on, named, quote_first, quote_kind, quote_sign}
pub use Rattle.yaml_emit_laws.specs.Bodies.{anchor_bodies, end_bodies, mark_bodies, tag_bodies, tag_body, version_bodies}
unfoldable pub use Rattle.yaml_emit_laws.specs.Bodies.{directives_bodies}
pub use Rattle.yaml_emit_laws.specs.QuotedLaws.{QuotedIsReadBack}
pub use Rattle.yaml_emit_laws.specs.ReadBack.{ValueIsReadBack, between_quotes, between_single}
pub use Rattle.yaml_emit_laws.specs.TagsLaws.{AreReadable, DirectivesAreRead, IsReadable, IsReadableDirective, ReadableDirectivesAreAscii, ReadableTagsAreAscii, SplitTagsAreRead, WrittenDirectivesAreReadable, WrittenTagsAreReadable, are_ascii}
pub use Rattle.yaml_emit_laws.specs.Walk.{Has, Left, bytes, first}
pub use Rattle.yaml_emit_laws.specs.Writable.{AreItemsWritable, ArePairsWritable, AreWritable, IsWritable, IsWritableAnchor, IsWritableName, IsWritableOpening, IsWritableTag}
pub use Rattle.yaml_emit_layout.specs.Content.{Document, Node, Nodes, Opening, Pairs, Scalar, Start, alias_node, mapping_node, no_nodes, no_pairs, node, pair, scalar_node, sequence_node}
pub use Rattle.yaml_emit_layout.specs.Grammar.{directives_problem, has, is_version, scalar_tag, start_tag, version_problem}
pub use Rattle.yaml_emit_layout.specs.Nodes.{Context, MOST, anchor_text, are_no_pairs, are_none, block_indent_in, checked, context_of, dashes, deeper, directive_text, dots, indent_of, indented, is_directed, is_flow, is_marked, is_of_mapping, is_plain, is_simple_part, key_part, page_at, position, properties_text, question, root_position, tag_text, version_text, version_word}
unfoldable pub use Rattle.yaml_emit_layout.specs.Nodes.{alias_layout, before_item, before_key, before_value, closer, directives_text, documents_layout, end_layout, is_simple, is_simple_start, items_layout, node_layout, pairs_layout, scalar_layout, start_layout, stop_layout, style_of, turned}
pub use Rattle.yaml_emit_layout.specs.declared.level.Part.{Part}
pub use Rattle.yaml_emit_layout.specs.Tags.{Split, shorthand, split_tag, tag_spelling, uri_byte, verbatim}
unfoldable pub use Rattle.yaml_emit_layout.specs.Tags.{spelled, uri_text}
pub use Rattle.yaml_emit_layout.specs.Layout.{Layout, Rest, after_block, after_text, blank, char, gap, indent_to, indicator, is_past, keep, must_break, new_line, nothing_more, opener, stay, when, word, wrap, ◌▹◌}
unfoldable pub use Rattle.yaml_emit_layout.specs.Layout.{blanks, letters, line}
pub use Rattle.yaml_emit_layout.specs.Quoted.{quoted_text, quoted_body}
pub use Rattle.yaml_emit_layout.specs.Scalars.{block_body, chomp, chomp_mark, digit_mark, plain, single_quoted}
unfoldable pub use Rattle.yaml_emit_layout.specs.Scalars.{flow_body, scalar_text}
pub use Rattle.yaml_emit_layout.specs.Spelling.{break_text}
unfoldable pub use Rattle.yaml_emit_layout.specs.Spelling.{in_front}
pub use Rattle.yaml_emit_layout.specs.Style.{plain_fits, single_or}
unfoldable pub use Rattle.yaml_emit_layout.specs.Style.{allowed, taken}
pub use Rattle.yaml_emit_layout.specs.Text.{Item, letter}
unfoldable pub use Rattle.yaml_emit_layout.specs.Text.{char_bytes, encode}
pub use Rattle.yaml_emit_layout.specs.declared.Cursor.{Cursor}
pub use Rattle.yaml_emit_layout.specs.declared.LineBreak.{LineBreak}
pub use Rattle.yaml_emit_layout.specs.declared.LineBreak.TheVariants.{Cr, CrLf, Lf}
pub use Rattle.yaml_emit_layout.specs.declared.Page.{Page}
pub use Rattle.yaml_emit_layout.specs.declared.Settings.{Settings}
pub use Rattle.yaml_emit_layout.specs.declared.Style.{Style}
pub use Rattle.yaml_emit_layout.specs.parse_model.Events.{TagDirective}
pub use Rattle.yaml_emit_layout.specs.scan_types.Tokens.{TokenBody}
pub use Rattle.yaml_emit_layout.specs.scan_model.declared.name.yaml_encoding_t.{yaml_encoding_t}
pub use Rattle.yaml_emit_layout.specs.scan_model.declared.record.yaml_version_directive_t.{yaml_version_directive_t}
pub use Rattle.yaml_scan_history.specs.History.{is_fresh, level_of, margin_at, opened, start_of}
unfoldable pub use Rattle.yaml_scan_history.specs.History.{indent}
pub use Rattle.yaml_scan_history.specs.Kinds.{allows_key, cancels, depth_after, is_end, is_outside, is_start, is_value, may_be_key}
pub use Rattle.yaml_scan_history.specs.Words.{WordText, body_said, indicator_of, kind_at, tagged, valued}
unfoldable pub use Rattle.yaml_scan_history.specs.Words.{lexeme_at}
pub use Rattle.yaml_scan_history.specs.declared.kind.Kind.{Kind}
pub use Rattle.yaml_scan_history.specs.declared.lexeme.Opens.{Opens}
pub use Rattle.yaml_emit_layout.specs.scan_types.Classes.{is_bom, is_break}
pub use Rattle.yaml_emit_layout.specs.scan_types.Marks.{break_width, byte, ends_break, is_blank, is_blank_or_end, mark_at, starts}
unfoldable pub use Rattle.yaml_emit_layout.specs.scan_types.Marks.{break_of, column_at, ends_of, line_at}
pub use Rattle.yaml_emit_layout.specs.scan_model.Wrong.{Wrong}
unfoldable pub use Rattle.yaml_scan_history.specs.Plain.{is_bracket}
pub use Rattle.yaml_scan_history.specs.Quoted.{double_quoted_at}
pub use Rattle.yaml_scan_history.specs.WordsLaws.{AnchorReads}
pub use Rattle.yaml_scan_history.specs.Written.{HasAt, are_gap, begins_lexeme, has_break}
pub use Rattle.yaml_scan_laws.proofs.MarksForward.{line_at-grows}
pub use Rattle.yaml_scan_laws.proofs.Signing.{marks_come, printed_begins, signs_come}
pub use Rattle.yaml_scan_laws.proofs.Slotting.{feed_line, letter_columns, level_opens, near_before}
pub use Rattle.yaml_scan_laws.proofs.Stepping.{words_leave}
pub use Rattle.yaml_scan_laws.proofs.Walking.{deeper_leaves, levels_part, walk_answers, walk_asks, walk_ends, walk_key_goes, walk_key_starts, walk_key_stops, walk_mark, walk_outer, walk_says, walk_starts, walk_stops, walk_white, walk_word}
unfoldable pub use Rattle.yaml_scan_laws.specs.TextFronts.{Rises}
pub use Rattle.yaml_scan_laws.specs.Pushes.{IsRight, stays_level}
pub use Rattle.yaml_scan_laws.specs.Signs.{MarkComes, SignComes, sign}
pub use Rattle.yaml_scan_laws.specs.Steps.{Comes, WordLeaves}
pub use Rattle.yaml_scan_laws.specs.Tokens.{start_bodies}
pub use Rattle.yaml_scan_laws.specs.Walks.{ClosesAt, Done, ReadsKey, WalkReads, WalkState, behind}
unfoldable pub use Rattle.yaml_scan_laws.specs.Walks.{LeaveClear, Outside}
pub use Rattle.yaml_scan_laws.specs.White.{IsGap}
pub use Rattle.yaml_scan_laws.proofs.Lines.{lone_mark_is_read}
pub use Rattle.yaml_scan_history.proofs.NamesRead.{anchor_is_read}
pub use Rattle.yaml_scan_laws.specs.WordsLaws.{LoneMarkReads, VersionReads}
