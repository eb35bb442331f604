-- The words of the definitions, and the lemmas on them from below, that the files of lemmas share.
pub use Rattle.std.proofs.Math.Bool.{and-false, or-true}
pub use Rattle.std.proofs.Math.Seq.{drop-append-add, drop-length, take-append-add, take-length}
pub use Rattle.std.proofs.lemmas.Bool.{and_parts, cases_Bool, cases_lt, eqb-true, le-ltb, lt-ltb, ltb-true, ne_eqb, true≢false}
pub use Rattle.std.proofs.lemmas.Bool.Decides.{nat_tests}
pub use Rattle.std.proofs.lemmas.Grind.{flat_map-append}
pub use Rattle.std.proofs.lemmas.List.{append-nil, append_assoc, drop-map, get_or-append-add, get_or-drop, get_or_append_left, get_or_past, get_or_push, length-append, length-drop, length-map, length_push, map-append, same_from_push, take-append-drop, take-map, take_more}
pub use Rattle.std.proofs.lemmas.Option.{none-some, same_Some}
pub use Rattle.std.specs.List.{flat_map}
pub use Rattle.yaml_scan_history.proofs.BetweenLemmas.{break_inside}
pub use Rattle.yaml_scan_history.proofs.HistoryLemmas.{candidate-more, first_open-le, fresh_is, length-entries}
pub use Rattle.yaml_scan_history.proofs.MarksLemmas.{column_end, no_break, past_break, start_column, start_line, widths, within}
pub use Rattle.yaml_scan_history.proofs.PlacesLemmas.{gap_place, run_place}
pub use Rattle.yaml_scan_history.proofs.RunsLemmas.{blank_parts, past_more, past_some, past_stop, space_parts, text_parts}
pub use Rattle.yaml_scan_history.proofs.WordsRunsLemmas.{belongs_here, blank_cases}
pub use Rattle.yaml_scan_history.specs.History.{Candidate, flow_depth, ended, entry_of, first_or, found_by, fresh, has, has_number, in_flow, inside, is_fresh, key_allowed, keyed, left_by, marked, open_at, opened, opens_at, placed, reached}
unfoldable pub use Rattle.yaml_scan_history.specs.History.{candidate, finished_tokens, first_open, indent, open_levels, mark_key}
pub use Rattle.yaml_scan_history.specs.Kinds.{allows_key, cancels, depth_after, is_end, is_outside, is_start, is_value, may_be_key}
pub use Rattle.yaml_scan_history.specs.Next.{Ends, Fails, Next, Read, allowed_behind, begun, begun_behind, candidate_lost, colon_missing_of, coming, extended, finished, first_fault_or, first_lexeme, gap_behind, indicator_misplaced, kind_behind, lexeme_behind, lost_by, misplaced, missed, no_start, not_allowed_there, place_behind, stale_after, stale_before, step, text_wrong, with_end, word_behind, wrong_in}
unfoldable pub use Rattle.yaml_scan_history.specs.Next.{history, next}
pub use Rattle.yaml_scan_history.specs.Remaining.{Remaining, SpelledText, body_by, body_in, body_of_word, fault_in, front_ends, handed_out, kept_of, offline, own_tokens, spell, start_tokens, token_in}
unfoldable pub use Rattle.yaml_scan_history.specs.Remaining.{all, handed, remaining}
pub use Rattle.yaml_scan_history.specs.Words.{WordText, blocked, body_said, carrying, directed, plainly, tagged, valued}
unfoldable pub use Rattle.yaml_scan_history.specs.Words.{indicator_of, kind_at, lexeme_at}
pub use Rattle.yaml_scan_history.specs.declared.kind.Kind.{Kind}
pub use Rattle.yaml_scan_history.specs.declared.lexeme.Entry.{Entry}
pub use Rattle.yaml_scan_history.specs.declared.lexeme.Lexeme.{Lexeme}
pub use Rattle.yaml_scan_history.specs.Block.{BlockText, block_at, block_behind, block_lines, block_with, depth_behind, larger_of, style_at}
unfoldable pub use Rattle.yaml_scan_history.specs.Block.{column_of, deepest, larger}
pub use Rattle.yaml_scan_history.specs.scan_model.Breaks.{feed_at}
unfoldable pub use Rattle.yaml_scan_history.specs.scan_model.Breaks.{break_value, is_document_indicator}
pub use Rattle.yaml_scan_history.specs.scan_types.Classes.{is_bom}
unfoldable pub use Rattle.yaml_scan_history.specs.scan_types.Classes.{is_alpha_byte, is_digit_byte}
pub use Rattle.yaml_scan_history.specs.scan_types.Faults.{Fault}
pub use Rattle.yaml_scan_history.specs.scan_types.Marks.{break_width, byte, ends_break, is_blank, is_blank_or_end, mark_at}
unfoldable pub use Rattle.yaml_scan_history.specs.scan_types.Marks.{break_of, column_at, ends_of, line_at}
pub use Rattle.yaml_scan_history.specs.scan_model.Problems.{scanner_fault}
pub use Rattle.yaml_scan_history.specs.scan_model.Runs.{is_blank_there, is_space_there, is_text, line_end, past_blanks, past_spaces}
unfoldable pub use Rattle.yaml_scan_history.specs.scan_model.Runs.{past}
pub use Rattle.yaml_scan_history.specs.scan_types.Tokens.{Token, TokenBody, block_end, document_start, stream_end, stream_start}
pub use Rattle.yaml_scan_history.specs.scan_model.Wrong.{Wrong}
pub use Rattle.yaml_scan_history.specs.scan_model.declared.name.yaml_encoding_t.{yaml_encoding_t}
pub use Rattle.yaml_scan_history.specs.scan_model.declared.problem.ScanFault.{ScanFault}
pub use Rattle.yaml_scan_history.specs.scan_model.declared.record.yaml_mark_t.{yaml_mark_t}
pub use Rattle.yaml_scan_history.specs.Pieces.{Kept, Piece, value}
pub use Rattle.yaml_scan_history.specs.Plain.{Faulty, PlainSpot, PlainText, Takes, Words, after_white, is_bracket, is_indicator_byte, plain_at, plain_text, plain_with, with_piece, words_from}
unfoldable pub use Rattle.yaml_scan_history.specs.Plain.{ends_at, leads, spot_at, starts_plain, words}
pub use Rattle.yaml_scan_history.specs.Quoted.{Bad, Closing, Pieces, QuotedSpot, coded, double_quoted_at, escaped, in_quotes, quoted_at, single_quoted_at, with_front}
unfoldable pub use Rattle.yaml_scan_history.specs.Quoted.{escape_at, hex_digit, hex_len, hex_value, pieces, quote_at, simple_escape, standing_at}
pub use Rattle.yaml_scan_history.specs.Anchors.{anchor_at, is_name_end, name_between}
unfoldable pub use Rattle.yaml_scan_history.specs.Anchors.{may_end_name}
pub use Rattle.yaml_scan_history.specs.Between.{Gap, gap_at, is_skipped, with_break}
unfoldable pub use Rattle.yaml_scan_history.specs.Between.{gap_within, step_at}
pub use Rattle.yaml_scan_history.specs.Directives.{DirectiveText, Said, ValueText, break_end, comment_end, directive_at, handle_at, handle_between, is_tag, is_yaml, line_end_at, minor_at, named_value_at, number_at, number_between, prefix_at, prefix_ended, tag_directive_at, then_at, value_at, value_end, version_at, with_line, with_major, with_prefix}
unfoldable pub use Rattle.yaml_scan_history.specs.Directives.{decimal}
pub use Rattle.yaml_scan_history.specs.Indicators.{is_thrice}
unfoldable pub use Rattle.yaml_scan_history.specs.Indicators.{is_document_end, is_document_start}
pub use Rattle.yaml_scan_history.specs.Runs.{run_end}
unfoldable pub use Rattle.yaml_scan_history.specs.Runs.{belongs, run_within}
pub use Rattle.yaml_scan_history.specs.Tags.{TagText, bare, bare_at, bracketed, may_end_tag, name_end, tag_at, tag_end, verbatim_at, with_handle}
unfoldable pub use Rattle.yaml_scan_history.specs.Tags.{parts_at}
pub use Rattle.yaml_scan_history.specs.Uris.{Spells, UriSpot, filled, is_uri, octet_of, octet_spot, some_uri_at, uri_at, with_bytes}
unfoldable pub use Rattle.yaml_scan_history.specs.Uris.{is_punctuation, is_wide_punctuation, octet_at, uri_within}
pub use Rattle.yaml_scan_laws.proofs.HistoryForward.{Stands, all_ends, first_is, history_grows, history_stands, last_is_all, not_ended, settled_stays, stays_all, stays_upto}
pub use Rattle.yaml_scan_laws.proofs.MarksForward.{line_at-grows}
pub use Rattle.yaml_scan_laws.proofs.StreamForward.{fault_next, stream_ends, stream_starts}
pub use Rattle.yaml_scan_laws.specs.Alike.{Alike}
unfoldable pub use Rattle.yaml_scan_laws.specs.Alike.{is_onward}
pub use Rattle.yaml_scan_laws.specs.Cuts.{EndsIn, EndsLine, IsCut, IsEndCut, IsEndLine, LeadsToDirective, is_white}
pub use Rattle.yaml_scan_laws.specs.CutsLaws.{EndedWindowsAreScanned, RefusedFrontsAreScanned, WindowsAreScanned, joined, scan_of}
pub use Rattle.yaml_scan_laws.specs.Moved.{moved_fault, moved_lexeme, moved_mark, moved_next, moved_scan_fault, moved_token}
