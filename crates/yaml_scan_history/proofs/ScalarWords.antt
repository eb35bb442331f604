-- The words of the definitions, and the lemmas on them from below, that the files of lemmas share.
pub use Rattle.std.proofs.lemmas.Bool.{eq-eqb, eqb-false, cases_lt, cond_both, lt-ltb, ltb-true, ne_eqb}
pub use Rattle.std.proofs.lemmas.Bool.Decides.{nat_tests}
pub use Rattle.std.proofs.lemmas.List.{drop_more}
pub use Rattle.yaml_scan_model.proofs.BreaksLemmas.{end_not_blank, last_of}
pub use Rattle.yaml_scan_model.proofs.MarksLemmas.{past_break, within}
pub use Rattle.yaml_scan_model.specs.Breaks.{feed_at, is_feed}
unfoldable pub use Rattle.yaml_scan_model.specs.Breaks.{is_document_indicator}
pub use Rattle.yaml_scan_model.specs.scan_types.Marks.{break_width, byte, column_at, ends_break, is_blank}
unfoldable pub use Rattle.yaml_scan_model.specs.scan_types.Marks.{ends_of}
pub use Rattle.yaml_scan_model.specs.Wrong.{Wrong}
unfoldable pub use Rattle.yaml_scan_history.specs.Pieces.{bytes_at}
pub use Rattle.yaml_scan_history.specs.Pieces.{Blank, Break, Kept, Line, Piece, folded, gap, is_empty, lines, rest_of, text, trim_end, value}
pub use Rattle.yaml_scan_history.specs.Plain.{Ends, Faulty, PlainSpot, Takes, Words, after_white, follows, plain_at, plain_text, plain_with, words_from}
unfoldable pub use Rattle.yaml_scan_history.specs.Plain.{ends_at, is_bracket, leads, spot_at, words}
pub use Rattle.yaml_scan_history.specs.Quoted.{Bad, Closing, Pieces, QuotedSpot, coded, followed, hex_digit, quoted_at, valued, with_front}
unfoldable pub use Rattle.yaml_scan_history.specs.Quoted.{escape_at, hex_len, hex_value, pieces, quote_at, standing_at}
pub use Rattle.yaml_scan_history.specs.Pieces.{behind}
pub use Rattle.yaml_scan_history.specs.UnboundedScalars.{DigitsAreRead, DigitsStandThere, IsPlainFrom, IsQuotedFrom, OneIsNoDigit, PlainIs, PlainIsOne, QuotedIs, QuotedIsOne, closes, digit, ends, goes_on, is_bad, is_faulty, no_digits, number_of, plain_behind, takes}
