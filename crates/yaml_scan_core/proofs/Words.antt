-- The words of the definitions, and the lemmas on them from below, that the files of proofs share.
pub use Rattle.std.proofs.Math.ListN.{set}
pub use Rattle.std.proofs.lemmas.Bool.{and_parts, cases_Bool, cases_lt, cases_order}
pub use Rattle.std.proofs.lemmas.Bool.Decides.{nat_tests}
pub use Rattle.std.proofs.lemmas.List.{get_or-append_right, get_or-drop, get_or-map, get_or_append_left, get_or_at, get_or_default, get_or_past, length-drop, length-map, length-take-le, map-append, take_all}
pub use Rattle.std.specs.List.{flat_map}
pub use Rattle.std.specs.Prelude.{IfSome, is_some, map, option_map, slice_index}
pub use Rattle.std.specs.Result.{result_err}
pub use Rattle.yaml_scan_history.proofs.HistoryLemmas.{candidate_below, cases_Option, first_open-le, fresh_before, fresh_is, length-entries, length-keyed}
pub use Rattle.yaml_scan_history.proofs.StepwiseLemmas.{stepwise}
pub use Rattle.yaml_scan_history.specs.History.{Candidate, flow_depth, ended, entry_of, found_by, fresh, has, inside, is_fresh, keeps, key_allowed, keyed, left_by, opened, opens_at, placed, reached, start_of}
unfoldable pub use Rattle.yaml_scan_history.specs.History.{candidate, finished_tokens, first_open, indent, open_levels, mark_key}
pub use Rattle.yaml_scan_history.specs.Kinds.{allows_key, cancels, depth_after, is_end, is_start, is_value, may_be_key}
pub use Rattle.yaml_scan_history.specs.Laws.{GoesForward, Upto}
pub use Rattle.yaml_scan_history.specs.Next.{Ends, Fails, Next, Read, allowed_behind, colon_missing, coming, finished, first_lexeme, kind_behind, lost_by, misplaced, missed, no_start}
unfoldable pub use Rattle.yaml_scan_history.specs.Next.{history, next}
pub use Rattle.yaml_scan_history.specs.Remaining.{Remaining, SpelledText, before, body_in, end_tokens, front_ends, handed, offline, remaining, spell, start_tokens}
unfoldable pub use Rattle.yaml_scan_history.specs.Remaining.{all}
pub use Rattle.yaml_scan_history.specs.Scanned.{scanned, scanned_in}
pub use Rattle.yaml_scan_history.specs.Stepwise.{behind, no_colon, of_kind, unless_lost, unless_missed, unless_wrong}
pub use Rattle.yaml_scan_history.specs.Words.{WordText}
unfoldable pub use Rattle.yaml_scan_history.specs.Words.{indicator_of, kind_at, lexeme_at}
pub use Rattle.yaml_scan_history.specs.declared.kind.Kind.{Kind}
pub use Rattle.yaml_scan_history.specs.declared.lexeme.Entry.{Entry}
pub use Rattle.yaml_scan_history.specs.declared.lexeme.Lexeme.{Lexeme}
pub use Rattle.yaml_scan_history.specs.declared.lexeme.Opens.{Opens}
pub use Rattle.yaml_scan_laws.proofs.RemainingForward.{ends_token, entries_ends, front_none, tokens_is}
pub use Rattle.yaml_scan_laws.specs.Fronts.{GivesFirst}
pub use Rattle.yaml_scan_model.proofs.MarksLemmas.{within}
pub use Rattle.yaml_scan_model.specs.scan_types.Faults.{Fault, fault_of, memory_fault}
pub use Rattle.yaml_scan_model.specs.scan_types.Marks.{Place, byte, is_blank_or_end, mark_at, splits_break, starts}
unfoldable pub use Rattle.yaml_scan_model.specs.scan_types.Marks.{column_at, line_at}
pub use Rattle.yaml_scan_model.specs.Problems.{scanner_fault}
pub use Rattle.yaml_scan_model.specs.Runs.{past_spaces}
pub use Rattle.yaml_scan_model.specs.scan_types.Tokens.{Token, TokenBody, block_end, body_of, key, no_token, zero_mark}
pub use Rattle.yaml_scan_model.specs.Wrong.{Wrong}
pub use Rattle.yaml_scan_model.specs.declared.fault.yaml_origin_t.TheVariants.{Reader}
pub use Rattle.yaml_scan_model.specs.declared.name.yaml_encoding_t.{yaml_encoding_t}
pub use Rattle.yaml_scan_model.specs.declared.problem.ScanFault.{ScanFault}
pub use Rattle.yaml_scan_model.specs.declared.record.yaml_mark_t.{yaml_mark_t}
pub use Rattle.yaml_scan_history.specs.Between.{Gap, gap_at}
pub use Rattle.yaml_scan_core.specs.Candidates.{AreKeys, AreKeysTo, AreStale, AreWithin, IsKey, KeyStack, KeyView, fresh_key, given_up, index_in, inner, key_at, key_mark, key_view, late, no_key, number_in, opened as key_opened, closed as key_closed, required_at, required_in, saved, stack_of, view_of}
pub use Rattle.yaml_scan_core.specs.declared.keys.SimpleKey.{SimpleKey}
pub use Rattle.yaml_scan_core.specs.declared.keys.Keys.{Keys}
pub use Rattle.yaml_scan_core.specs.Lines.{IsLineStart}
