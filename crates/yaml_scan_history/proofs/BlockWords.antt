-- The words of the definitions, and the lemmas on them from below, that the files of lemmas share.
pub use Rattle.std.proofs.lemmas.Bool.{ltb-true, cases_Bool, eq-eqb, lt-ltb, ne_eqb}
pub use Rattle.std.proofs.lemmas.Bool.Decides.{nat_tests}
pub use Rattle.yaml_scan_history.specs.Block.{block_at, block_with, larger_of}
unfoldable pub use Rattle.yaml_scan_history.specs.Block.{column_of, deepest, larger}
pub use Rattle.yaml_scan_history.specs.Header.{HeaderText, chomp_of, chomping_place, digit_of, digit_place, header_end}
unfoldable pub use Rattle.yaml_scan_history.specs.Header.{header_at, indicators, is_chomping}
pub use Rattle.yaml_scan_history.specs.Lines.{Line, LineSpot, Lines, Stops, Tab, in_block, line_spot, line_then, with_line}
unfoldable pub use Rattle.yaml_scan_history.specs.Lines.{lines_from, spaces, spot_behind}
unfoldable pub use Rattle.yaml_scan_history.specs.Value.{stacked_with}
pub use Rattle.yaml_scan_history.specs.UnboundedBlocks.{AreLinesFrom, Deepest, DeepestIs, DeepestIsOne, EndsBlockRun, LeadsTo, LinesAre, LinesAreOne, RunEndsOnce, RunsEnd, at_once, behind_blank, goes_on, has_tab, indent_at, stops}
pub use Rattle.yaml_scan_history.specs.Value.{BlockLine, Empty, TextLine, Words, at_end, behind_text, block_value, space_or, starts_blank, texts_of, value_with}
unfoldable pub use Rattle.yaml_scan_history.specs.Value.{between}
pub use Rattle.yaml_scan_history.specs.declared.header.Chomp.{Chomp}
pub use Rattle.yaml_scan_model.proofs.BreaksLemmas.{no_end-blank}
pub use Rattle.yaml_scan_model.proofs.MarksLemmas.{column_more, no_break, past_break, within}
pub use Rattle.yaml_scan_model.proofs.RunsLemmas.{past-le, past_more, past_some, past_stop, text_parts}
pub use Rattle.yaml_scan_model.specs.Breaks.{break_value, feed_at}
pub use Rattle.yaml_scan_model.specs.scan_types.Marks.{break_width, byte, column_at}
unfoldable pub use Rattle.yaml_scan_model.specs.scan_types.Marks.{break_of}
pub use Rattle.yaml_scan_model.specs.Runs.{is_space_there, is_text, line_end, past, past_spaces}
pub use Rattle.yaml_scan_model.specs.Wrong.{Wrong}
