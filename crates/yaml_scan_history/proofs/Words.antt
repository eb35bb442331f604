-- The words of the definitions, and the lemmas on them from below, that the files of lemmas share.
pub use Rattle.std.proofs.lemmas.Bool.{and_parts, and_right, cases_Bool, cases_lt, cond_both, eq-eqb, eqb-false, eqb-true, false_from_ne_true, le-ltb, lt-ltb, ltb-true, ne_eqb, not-true, or_cases, or_from, or_parts, true≢false}
pub use Rattle.std.proofs.lemmas.Bool.Decides.{nat_tests}
pub use Rattle.std.proofs.lemmas.List.{drop_more}
pub use Rattle.yaml_scan_model.proofs.MarksLemmas.{no_break_between, past_break, within}
pub use Rattle.yaml_scan_model.proofs.RunsLemmas.{past-inside, past-le, past_some, text_parts}
pub use Rattle.yaml_scan_model.specs.scan_types.Classes.{is_bom}
unfoldable pub use Rattle.yaml_scan_model.specs.scan_types.Classes.{is_alpha_byte, is_digit_byte}
pub use Rattle.yaml_scan_model.specs.scan_types.Marks.{break_width, byte, is_blank}
unfoldable pub use Rattle.yaml_scan_model.specs.scan_types.Marks.{break_of}
pub use Rattle.yaml_scan_model.specs.Runs.{is_text}
pub use Rattle.yaml_scan_model.specs.Wrong.{Wrong}
pub use Rattle.yaml_scan_model.specs.declared.problem.Context.{Context}
pub use Rattle.yaml_scan_history.specs.Anchors.{anchor_at, is_name_end}
unfoldable pub use Rattle.yaml_scan_history.specs.Anchors.{may_end_name}
pub use Rattle.yaml_scan_history.specs.Between.{Gap, GapStep, gap_at, gap_behind, is_skipped, with_break}
unfoldable pub use Rattle.yaml_scan_history.specs.Between.{gap_within, step_at}
pub use Rattle.yaml_scan_history.specs.Directives.{break_end, comment_end, handle_at, line_end_at, line_place, minor_at, name_at, name_behind, named_value_at, number_at, number_behind, prefix_at, tag_directive_at, then_at, value_at, value_end, version_at}
unfoldable pub use Rattle.yaml_scan_history.specs.Directives.{decimal}
pub use Rattle.yaml_scan_history.specs.Uris.{behind_bytes}
pub use Rattle.yaml_scan_history.specs.Runs.{run_end}
unfoldable pub use Rattle.yaml_scan_history.specs.Runs.{belongs, run_within}
pub use Rattle.yaml_scan_history.specs.Tags.{ended, may_end_tag, name_end, tag_at, tag_end}
unfoldable pub use Rattle.yaml_scan_history.specs.Tags.{parts_at}
pub use Rattle.yaml_scan_history.specs.Uris.{Ends, Faulty, IsKept, Spells, UriSpot, due_behind, is_uri, octet_of, octet_spot, some_uri_at, uri_at, uri_from, with_bytes}
unfoldable pub use Rattle.yaml_scan_history.specs.Uris.{hex_digit, is_punctuation, is_wide_punctuation, octet_at, spot_at, uri_within}
pub use Rattle.yaml_scan_history.specs.Written.{HasAt, IsUri, UriPiece, are_alphas, are_gap, begins_lexeme, escape, has_break, has_no_mark, is_kept, raw, uri_bytes, uri_text}
unfoldable pub use Rattle.yaml_scan_history.specs.Written.{capital}
pub use Rattle.yaml_scan_history.specs.declared.between.GapSpot.{GapSpot}
pub use Rattle.yaml_scan_history.specs.declared.directives.DirectiveName.{DirectiveName}
pub use Rattle.yaml_scan_history.specs.declared.run.Run.{Run}
