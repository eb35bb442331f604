-- The words of the definitions, and the lemmas on them from below, that the files of lemmas share.
pub use Rattle.std.proofs.lemmas.Bool.{agree_below_at, eq-eqb, eqb-false, eqb-true, and_parts, cases_Bool, cases_lt, cond_both, lt-ltb, ltb-true, ne_eqb, not-true, false≢true, or_cases, or_from, or_parts, or_right, true≢false}
pub use Rattle.std.proofs.lemmas.Bool.Decides.{nat_tests}
pub use Rattle.yaml_scan_model.proofs.MarksLemmas.{within, no_break}
pub use Rattle.yaml_scan_types.specs.Marks.{Place, break_width, byte, column_at, ends_break, is_blank, is_blank_or_end, mark_at, splits_break, starts}
unfoldable pub use Rattle.yaml_scan_types.specs.Marks.{break_of, ends_of}
unfoldable pub use Rattle.yaml_scan_history.specs.Plain.{is_bracket}
pub use Rattle.yaml_scan_text.specs.declared.class.TheConstants.{NAMES}
pub use Rattle.yaml_scan_model.proofs.BreaksLemmas.{end_not_blank, no_end-blank, feed_some, feed_other, last_of, value_long, value_three, value_other}
pub use Rattle.yaml_scan_model.proofs.MarksLemmas.{end_next, past_break, split_next}
pub use Rattle.yaml_scan_model.proofs.RunsLemmas.{blank_parts, no_space, run_done, run_more, run_start, space_parts, text_parts}
pub use Rattle.yaml_scan_model.specs.Breaks.{feed_at, is_feed}
unfoldable pub use Rattle.yaml_scan_model.specs.Breaks.{break_value, is_document_indicator}
unfoldable pub use Rattle.yaml_scan_history.specs.Pieces.{bytes_at}
pub use Rattle.yaml_scan_history.proofs.RunLemmas.{calm_between, calm_ends_none, bytes_long, bytes_more, bytes_none, slice_bytes}
pub use Rattle.yaml_scan_model.proofs.MarksLemmas.{column_more, column_same, column_end}
pub use Rattle.yaml_scan_history.proofs.PlainLemmas.{lead_break, lead_text, leads-blank, leads-text, white-blank, white-text, plain_whole, spot_blank, spot_break, spot_ends, spot_kept, not_ended, words_here, words_on}
pub use Rattle.yaml_scan_history.proofs.FoldingLemmas.{blanks_of, gap-other, value-break, value-kept}
pub use Rattle.yaml_scan_history.specs.Pieces.{Blank, Break, Kept, Line, Piece, folded, gap, is_empty, lines, Rest, rest_of, text, trim_end, trim_start, value}
pub use Rattle.yaml_scan_history.specs.Plain.{Ends, Faulty, PlainSpot, PlainText, Takes, Words, after_white, follows, in_plain, is_nothing, plain_at, plain_text, plain_with, with_piece, words_from}
unfoldable pub use Rattle.yaml_scan_history.specs.Plain.{ends_at, leads, spot_at, starts_plain, words}
pub use Rattle.yaml_scan_model.specs.Wrong.{Wrong}
unfoldable pub use Rattle.yaml_scan_model.specs.Runs.{past}
pub use Rattle.yaml_scan_model.specs.Runs.{is_blank_there, past_blanks}
pub use Rattle.yaml_scan_model.proofs.RunsLemmas.{past-le}
pub use Rattle.yaml_scan_text.specs.PlainRead.{InLine, IsBadTab, IsHead, PassesBreaks, IsPlain, IsPlainLine, IsWord, ReadsPlain, bad_colon, coming, is_bad_colon, is_colon, may_stop, one_line, stop_at, stops}
unfoldable pub use Rattle.yaml_scan_text.specs.PlainRead.{so_far}
unfoldable pub use Rattle.yaml_scan_text.specs.Lines.{line_start}
pub use Rattle.yaml_scan_text.specs.Lines.{InHead, IsSpelled}
unfoldable pub use Rattle.yaml_scan_history.specs.Quoted.{escape_at, hex_digit, hex_len, hex_value, quote_at, simple_escape, standing_at}
unfoldable pub use Rattle.yaml_scan_text.specs.QuotedRead.{raw_at}
unfoldable pub use Rattle.yaml_scan_text.specs.Folds.{feeds_within}
pub use Rattle.yaml_scan_text.specs.Folds.{White, feeds, fold_of, no_white, step_width, white_blank, white_break}
pub use Rattle.yaml_scan_text.specs.Refused.{IsMemory, Keeps, Refuses, wrong_of}
