-- The words of the definitions, and the lemmas on them from below, that the files of lemmas share.
pub use Rattle.std.proofs.lemmas.Bool.{and_parts, cases_Bool, cases_lt, eqb-true, ltb-true, true≢false}
pub use Rattle.std.proofs.lemmas.Bool.Decides.{nat_tests}
pub use Rattle.std.specs.List.{flat_map}
pub use Rattle.yaml_scan_history.proofs.HistoryLemmas.{candidate-more, candidate_below, first_open-is, first_open-le, first_open-least, fresh_is, length-entries, length-keyed, stays, take-handed, take-history}
pub use Rattle.yaml_scan_history.proofs.MarksLemmas.{past_break, within}
pub use Rattle.yaml_scan_history.proofs.PlacesLemmas.{IsFrom, Lands, anchor_place, gap_place, line_end_place, tag_place, value_place}
pub use Rattle.yaml_scan_history.specs.History.{Candidate, flow_depth, ended, entry_of, fresh, inside, is_fresh, key_allowed, keyed, placed, reached}
unfoldable pub use Rattle.yaml_scan_history.specs.History.{candidate, finished_tokens, first_open, open_levels, mark_key}
pub use Rattle.yaml_scan_history.specs.Kinds.{is_end}
pub use Rattle.yaml_scan_history.specs.Next.{Ends, Fails, Next, Read, allowed_behind, begun, extended, finished, first_lexeme, lost_by, misplaced, missed}
unfoldable pub use Rattle.yaml_scan_history.specs.Next.{history, next}
pub use Rattle.yaml_scan_history.specs.Remaining.{Remaining, SpelledText, before, body_by, body_of_word, end_tokens, fault_in, front_ends, handed_out, kept_of, nothing, offline, own_tokens, spell, start_tokens, token_in}
unfoldable pub use Rattle.yaml_scan_history.specs.Remaining.{all, handed, remaining}
pub use Rattle.yaml_scan_history.specs.Words.{WordText, blocked, body_said, carrying, directed, or_plain, plainly, tagged, valued}
unfoldable pub use Rattle.yaml_scan_history.specs.Words.{indicator_of, kind_at, lexeme_at}
pub use Rattle.yaml_scan_history.specs.declared.kind.Kind.{Kind}
pub use Rattle.yaml_scan_history.specs.declared.lexeme.Entry.{Entry}
pub use Rattle.yaml_scan_history.specs.declared.lexeme.Lexeme.{Lexeme}
pub use Rattle.yaml_scan_history.specs.Block.{BlockText, block_at, block_behind, block_lines, block_with, column_of, style_at}
pub use Rattle.yaml_scan_history.specs.scan_types.Faults.{Fault}
pub use Rattle.yaml_scan_history.specs.scan_types.Marks.{break_width, byte, is_blank, is_blank_or_end, mark_at}
unfoldable pub use Rattle.yaml_scan_history.specs.scan_types.Marks.{column_at, line_at}
pub use Rattle.yaml_scan_history.specs.scan_model.Problems.{scanner_fault}
pub use Rattle.yaml_scan_history.specs.scan_types.Tokens.{Token, TokenBody, block_end, no_token, stream_end, stream_start, zero_mark}
pub use Rattle.yaml_scan_history.specs.scan_model.Wrong.{Wrong}
pub use Rattle.yaml_scan_history.specs.scan_model.declared.name.yaml_scalar_style_t.{yaml_scalar_style_t}
pub use Rattle.yaml_scan_history.specs.scan_model.declared.problem.ScanFault.{ScanFault}
pub use Rattle.yaml_scan_history.specs.scan_model.declared.record.yaml_mark_t.{yaml_mark_t}
pub use Rattle.yaml_scan_history.specs.Pieces.{Kept, Piece}
pub use Rattle.yaml_scan_history.specs.Plain.{Faulty, PlainSpot, PlainText, Takes, Words, ends_at, follows, is_bracket, leads, plain_at, plain_text, plain_with, with_piece, words_from}
unfoldable pub use Rattle.yaml_scan_history.specs.Plain.{spot_at, words}
pub use Rattle.yaml_scan_history.specs.Quoted.{Bad, Closing, Pieces, QuotedSpot, coded, double_quoted_at, escaped, followed, quoted_at, single_quoted_at, with_front}
unfoldable pub use Rattle.yaml_scan_history.specs.Quoted.{escape_at, hex_digit, hex_value, pieces, quote_at, simple_escape, standing_at}
pub use Rattle.yaml_scan_history.specs.Anchors.{anchor_at}
pub use Rattle.yaml_scan_history.specs.Directives.{DirectiveText, Said, ValueText, line_place, value_at, value_end, with_line}
pub use Rattle.yaml_scan_history.specs.Uris.{behind_bytes}
pub use Rattle.yaml_scan_history.specs.Tags.{TagText, tag_at, tag_end}
pub use Rattle.yaml_scan_laws.specs.Standing.{StandsIn, TakesBytes}
