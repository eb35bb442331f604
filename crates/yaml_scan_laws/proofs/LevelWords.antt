-- The words of the definitions, and the lemmas on them from below, that the files of lemmas share.
pub use Rattle.std.proofs.Math.Bool.{and-false, or-false}
pub use Rattle.std.proofs.lemmas.Bool.{and_parts, cases_Bool, cases_lt, eq-eqb, false≢true, not-true}
pub use Rattle.std.proofs.lemmas.Bool.Decides.{nat_tests}
pub use Rattle.std.proofs.lemmas.Grind.{flat_map-append}
pub use Rattle.std.proofs.lemmas.List.{append-nil, append_cancel_left}
pub use Rattle.yaml_scan_laws.specs.Ends.{EndIsRead, StartStands, end_at}
pub use Rattle.yaml_scan_laws.specs.TextFronts.{Front, Holds, Idle, InTime, IsFree, LeavesLevels, Meets, Says, entry, read_at}
unfoldable pub use Rattle.yaml_scan_laws.specs.TextFronts.{Came, Rises}
pub use Rattle.yaml_scan_laws.specs.Pushes.{InsideLeaves, IsLone, IsPlaced, IsRight, LeftCloses, MarkIsRead, MetIsRead, OuterIsRead, RightLeaves, WordIsRead, stays_level}
pub use Rattle.yaml_scan_laws.specs.Rows.{BlocksAreRead, KeysAreRead, plain, row_of_blocks, row_of_keys}
pub use Rattle.yaml_scan_laws.specs.Slots.{BreakEndsLine, LaterIsLone, LetterColumns, LevelOpens, NearBefore, NoneIsLone, SlotsGoOn, Started, StartedGoesOn, StartsBy, WhiteColumns, column_behind}
pub use Rattle.yaml_scan_laws.specs.Steps.{Comes, KeyStarts, KeySteps, KeyStops, MarkSteps, OuterSteps, Stands, StartSteps, WhiteSteps, WordLeaves, WordSteps, WordsLeave, may_begin}
pub use Rattle.yaml_scan_laws.specs.Tokens.{KeyTells, LevelTells, WordTells, bodies_of, start_bodies, told}
pub use Rattle.yaml_scan_laws.specs.Walks.{ClosesAt, Content, DeeperLeaves, Key, LevelsPart, WalkAnswers, WalkAsks, WalkEnds, WalkGoes, WalkKeyGoes, WalkKeyStarts, WalkKeyStops, WalkMark, WalkOuter, WalkReads, WalkSays, WalkStarts, WalkState, WalkStops, WalkWhite, WalkWord}
unfoldable pub use Rattle.yaml_scan_laws.specs.Walks.{Clear, LeaveClear, Outside}
pub use Rattle.yaml_scan_laws.specs.White.{IsGap, KeyIsAllowed, White, WhiteBegins, WhiteGoesOn, WhiteIsOver, WhiteIsPassed, WhiteIsTaken, WhiteMeets}
pub use Rattle.yaml_scan_history.proofs.GapsRead.{byte_cases, gap_is_read}
pub use Rattle.yaml_scan_history.proofs.HistoryLemmas.{candidate-more, candidate_below, fresh_is, length-entries}
pub use Rattle.yaml_scan_laws.proofs.MarksForward.{line_at-grows}
pub use Rattle.yaml_scan_history.specs.History.{Candidate, as_key, flow_depth, ended, entry_of, found_by, fresh, has, has_number, in_flow, inside, is_fresh, key_allowed, keyed, left_by, level_of, margin_at, marked, opened, opens_at, opens_of, reached, start_of}
unfoldable pub use Rattle.yaml_scan_history.specs.History.{candidate, finished_tokens, indent, open_levels, mark_key}
pub use Rattle.yaml_scan_history.specs.Kinds.{allows_key, cancels, depth_after, is_end, is_outside, is_start, is_value, may_be_key}
pub use Rattle.yaml_scan_history.specs.Next.{Ends, Fails, Next, Read, allowed_behind, begun, begun_behind, coming, extended, faults, finished, first_fault_or, first_lexeme, gap_behind, level_in, lexeme_behind, lost_by, misplaced, missed, no_start, place_behind, stale_before, with_end, word_behind}
unfoldable pub use Rattle.yaml_scan_history.specs.Next.{history, next}
pub use Rattle.yaml_scan_history.specs.Remaining.{Remaining, SpelledText, before, body_by, body_in, fault_in, front_ends, handed_out, kept_of, offline, own_tokens, spell, start_tokens}
unfoldable pub use Rattle.yaml_scan_history.specs.Remaining.{all, handed, remaining}
pub use Rattle.yaml_scan_history.specs.Stepwise.{behind, tested}
pub use Rattle.yaml_scan_history.specs.Words.{WordText, or_plain}
unfoldable pub use Rattle.yaml_scan_history.specs.Words.{indicator_of, kind_at, lexeme_at}
pub use Rattle.yaml_scan_history.specs.declared.kind.Kind.{Kind}
pub use Rattle.yaml_scan_history.specs.declared.lexeme.Entry.{Entry}
pub use Rattle.yaml_scan_history.specs.declared.lexeme.Lexeme.{Lexeme}
pub use Rattle.yaml_scan_history.specs.declared.lexeme.Opens.{Opens}
unfoldable pub use Rattle.yaml_scan_history.specs.scan_model.Breaks.{break_value, is_document_indicator}
unfoldable pub use Rattle.yaml_scan_history.specs.scan_types.Classes.{is_alpha_byte, is_digit_byte}
pub use Rattle.yaml_scan_history.specs.scan_types.Marks.{byte, ends_break, is_blank_or_end, mark_at, starts}
unfoldable pub use Rattle.yaml_scan_history.specs.scan_types.Marks.{break_of, column_at, ends_of, line_at}
pub use Rattle.yaml_scan_history.specs.scan_types.Tokens.{Token, TokenBody, block_end, key, stream_end}
pub use Rattle.yaml_scan_history.specs.scan_model.Wrong.{Wrong}
pub use Rattle.yaml_scan_history.specs.scan_model.declared.record.yaml_mark_t.{yaml_mark_t}
unfoldable pub use Rattle.yaml_scan_history.specs.Plain.{ends_at, is_bracket, is_indicator_byte, leads, spot_at, starts_plain, words}
unfoldable pub use Rattle.yaml_scan_history.specs.Anchors.{may_end_name}
pub use Rattle.yaml_scan_history.specs.Between.{Gap, gap_at}
unfoldable pub use Rattle.yaml_scan_history.specs.Indicators.{is_document_end, is_document_start}
unfoldable pub use Rattle.yaml_scan_history.specs.Runs.{belongs, run_within}
pub use Rattle.yaml_scan_history.specs.Written.{HasAt, are_gap, begins_lexeme, has_break}
