-- The words of the definitions, and the lemmas on them from below, that the files of lemmas share.
pub use Rattle.std.proofs.lemmas.Bool.{ne_eqb, and_parts, cases_Bool, cases_lt, eqb-true, ltb-true, not-false, not-true, or_cases}
pub use Rattle.std.proofs.lemmas.Bool.Decides.{nat_tests}
pub use Rattle.std.proofs.lemmas.List.{append-nil, drop-map, drop_all, drop_more, reverse-append}
pub use Rattle.std.proofs.lemmas.List.Elements.{All-cons, All-head, All-nil, All-tail}
pub use Rattle.std.proofs.lemmas.Str.{IsCharBoundary-after_ascii, IsCharBoundary-at_seam, IsCharBoundary-from_drop, IsUtf8-append, IsUtf8-between, IsUtf8-drop, IsUtf8-encode, IsUtf8-from_ascii, IsUtf8-nil, IsUtf8-past_char, IsUtf8-take}
pub use Rattle.std.specs.Char.{IsScalar}
unfoldable pub use Rattle.std.specs.Char.{encode_utf8}
pub use Rattle.std.specs.List.{AllPass, list_all}
pub use Rattle.yaml_scan_history.proofs.MarksLemmas.{widths, within}
pub use Rattle.yaml_scan_laws.proofs.NextForward.{placed_index, with_end}
pub use Rattle.yaml_scan_history.proofs.StepwiseLemmas.{stepwise}
pub use Rattle.yaml_scan_history.specs.Block.{BlockText, block_at, block_behind, block_lines, block_with, style_at}
pub use Rattle.yaml_scan_history.specs.History.{Candidate, flow_depth, ended, entry_of, first_open, found_by, fresh, has, inside, key_allowed, keyed, left_by, level_of, marked, opened, opens_at, placed, reached}
unfoldable pub use Rattle.yaml_scan_history.specs.History.{candidate, finished_tokens, indent, open_levels, mark_key}
pub use Rattle.yaml_scan_history.specs.Kinds.{allows_key, cancels, depth_after, is_end, is_start, is_value, may_be_key}
pub use Rattle.yaml_scan_history.specs.Next.{Ends, Fails, Next, Read, allowed_behind, begun, coming, extended, finished, first_lexeme, kind_behind, lost_by, misplaced, missed}
unfoldable pub use Rattle.yaml_scan_history.specs.Next.{history, next}
pub use Rattle.yaml_scan_history.specs.Remaining.{Remaining, SpelledText, before, body_by, body_in, body_of_word, end_tokens, fault_in, front_ends, handed_out, kept_of, offline, own_tokens, spell, start_tokens, token_in}
unfoldable pub use Rattle.yaml_scan_history.specs.Remaining.{all, handed, remaining}
pub use Rattle.yaml_scan_history.specs.Stepwise.{behind, not_allowed, of_kind, tested, unless_lost, unless_missed, unless_wrong}
pub use Rattle.yaml_scan_history.specs.Words.{WordText, blocked, body_said, carrying, directed, plainly, tagged, valued}
unfoldable pub use Rattle.yaml_scan_history.specs.Words.{kind_at, lexeme_at}
pub use Rattle.yaml_scan_history.specs.declared.kind.Kind.{Kind}
pub use Rattle.yaml_scan_history.specs.declared.lexeme.Entry.{Entry}
pub use Rattle.yaml_scan_history.specs.declared.lexeme.Lexeme.{Lexeme}
pub use Rattle.yaml_scan_history.specs.scan_model.Breaks.{feed_at, is_feed}
unfoldable pub use Rattle.yaml_scan_history.specs.scan_model.Breaks.{break_value, is_document_indicator}
pub use Rattle.yaml_scan_history.specs.scan_types.Classes.{is_bom, is_break, is_digit}
unfoldable pub use Rattle.yaml_scan_history.specs.scan_types.Classes.{is_alpha_byte, is_digit_byte}
pub use Rattle.yaml_scan_history.specs.scan_types.Marks.{break_width, byte, column_at, ends_break, is_blank, is_blank as is_blank_byte, is_blank_or_end, mark_at}
unfoldable pub use Rattle.yaml_scan_history.specs.scan_types.Marks.{break_of, ends_of}
pub use Rattle.yaml_scan_history.specs.scan_types.Tokens.{Token, TokenBody, block_end, block_mapping_start, block_sequence_start, key}
pub use Rattle.yaml_scan_history.specs.scan_model.Wrong.{Wrong}
pub use Rattle.yaml_scan_history.specs.scan_model.declared.problem.Context.{Context}
pub use Rattle.yaml_scan_history.specs.scan_model.declared.name.yaml_scalar_style_t.{yaml_scalar_style_t}
pub use Rattle.yaml_scan_history.specs.scan_model.declared.record.yaml_mark_t.{yaml_mark_t}
pub use Rattle.yaml_scan_history.specs.Pieces.{Blank, Break, Kept, Line, Piece, folded, gap, is_empty, lines, rest_of, text, trim_end, trim_start, value}
pub use Rattle.yaml_scan_history.specs.Plain.{Faulty, PlainSpot, PlainText, Takes, Words, after_white, follows, is_nothing, plain_at, plain_text, plain_with, with_piece, words_from}
unfoldable pub use Rattle.yaml_scan_history.specs.Plain.{ends_at, is_bracket, leads, spot_at, words}
pub use Rattle.yaml_scan_history.specs.Quoted.{Bad, Closing, Pieces, QuotedSpot, coded, double_quoted_at, escaped, followed, hex_len, is_scalar, quoted_at, single_quoted_at, with_front}
unfoldable pub use Rattle.yaml_scan_history.specs.Quoted.{escape_at, hex_digit, hex_value, pieces, quote_at, simple_escape, standing_at}
pub use Rattle.yaml_scan_history.specs.Between.{Gap}
pub use Rattle.yaml_scan_laws.specs.KeyFree.{around, asked_after, fits, innermost, is_inside, keeps_level, kinds_of, marked_so}
unfoldable pub use Rattle.yaml_scan_laws.specs.KeyFree.{asked, is_key_free, is_level_free}
pub use Rattle.yaml_scan_laws.specs.KeysLaws.{end_in, gap_in, lexeme_of}
pub use Rattle.yaml_scan_laws.specs.Spelled.{AreAlphas, AreSpelled, IsHandle, IsName, IsSome, IsSpelled}
pub use Rattle.yaml_scan_laws.specs.Utf8Texts.{HasTexts}
pub use Rattle.yaml_scan_history.proofs.HasLemmas.{Has, has_front, has_rest, range_reads}
pub use Rattle.yaml_scan_history.proofs.NamesRead.{alphas_run, no_alpha_at}
pub use Rattle.yaml_scan_history.proofs.WordsRunsLemmas.{belongs_inside, run_more, run_stop}
pub use Rattle.yaml_scan_history.proofs.UrisLemmas.{uri_range}
pub use Rattle.yaml_scan_history.proofs.UrisRead.{uri_is_read}
pub use Rattle.yaml_scan_history.specs.Anchors.{anchor_at, is_name_end, name_between}
unfoldable pub use Rattle.yaml_scan_history.specs.Anchors.{may_end_name}
pub use Rattle.yaml_scan_history.specs.Between.{gap_at, is_skipped}
unfoldable pub use Rattle.yaml_scan_history.specs.Between.{gap_within, step_at}
pub use Rattle.yaml_scan_history.specs.Directives.{ValueText, break_end, comment_end, directive_at, handle_at, handle_between, is_tag, is_yaml, line_end_at, minor_at, name_between as directive_name_between, named_value_at, number_at, number_between, prefix_at, prefix_ended, tag, tag_directive_at, then_at, value_at, version, version_at, with_line, with_major, with_prefix}
unfoldable pub use Rattle.yaml_scan_history.specs.Directives.{decimal}
unfoldable pub use Rattle.yaml_scan_history.specs.Indicators.{is_document_end, is_document_start}
pub use Rattle.yaml_scan_history.specs.Runs.{run_end}
unfoldable pub use Rattle.yaml_scan_history.specs.Runs.{belongs, run_within}
pub use Rattle.yaml_scan_history.specs.Tags.{TagText, bare, bracketed, may_end_tag, name_end, tag_at, with_handle}
unfoldable pub use Rattle.yaml_scan_history.specs.Tags.{parts_at}
pub use Rattle.yaml_scan_history.specs.Uris.{filled, is_uri, some_uri_at, uri_at}
unfoldable pub use Rattle.yaml_scan_history.specs.Uris.{is_punctuation, is_wide_punctuation}
