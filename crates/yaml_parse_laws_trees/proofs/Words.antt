-- The words of the definitions, and the lemmas below, that the files of lemmas share.
pub use Rattle.std.proofs.lemmas.Bool.{cases_order, false≢true, or_cases, true≢false}
pub use Rattle.std.proofs.lemmas.List.{append-nil, append_assoc}
pub use Rattle.std.specs.Cmp.Lexicographic.{nat_list_cmp_total, slice_cmp}
pub use Rattle.std.specs.Ordering.{nat_cmp}
pub use Rattle.std.specs.Str.{bytes_eq}
pub use Rattle.yaml_parse_model.specs.Documents.{Document, change_place}
pub use Rattle.yaml_parse_grammar.proofs.Complete.{Ends, Starts, block_colon_follows, colon_follows, ends, ends_apart, entries_follow, follows_ends, more_ends, node_starts, others_follow, pairs_follow}
pub use Rattle.yaml_parse_grammar.proofs.Rules.{MayLeave, MayRefuse, leave_rule, none_opens, opens_first, refuse_rule, take_rule, was_take}
pub use Rattle.yaml_parse_grammar.specs.TreeEvents.{Turn, asks, colon_events, colon_start, colon_turns, content_events, content_start, content_turns, directives_events, directives_turns, documents_events, documents_start, documents_turns, each_asks, ends_events, ends_start, ends_turns, entries_events, entries_start, entries_turns, first_events, first_turns, given_of, gives, gives_at_next, items_events, items_turns, lone_turns, lone_value, maybe_events, maybe_turns, more_events, more_start, more_turns, node_events, node_start, node_turns, others_events, others_start, others_turns, pair_closes, pair_closes_turns, pair_opens, pair_opens_turns, pairs_events, pairs_start, pairs_turns, properties_turns, tokens_in, tree_events, tree_turns, unasked}
pub use Rattle.yaml_parse_grammar.specs.TreeSteps.{items, items_colon, items_content, items_directives, items_documents, items_ends, items_entries, items_first, items_items, items_maybe, items_more, items_node, items_others, items_pairs, lone, pair_end, pair_start}
pub use Rattle.yaml_parse_grammar.specs.Trees.{AnchorToken, Colon, Content, Directive, Documents, Entries, First, Given, Items, Maybe, More, Node, Others, Pairs, PropertyTokens, Span, Stream, TagToken, anchor_token, closing, event_at, flow_shape, mark_at, next, opening, spell, spell_colon, spell_content, spell_directives, spell_documents, spell_ends, spell_entries, spell_first, spell_items, spell_maybe, spell_more, spell_node, spell_others, spell_pairs, spell_properties, tag_token, token_at}
pub use Rattle.yaml_parse_grammar.specs.declared.name.Side.{Side}
pub use Rattle.yaml_parse_grammar.specs.declared.name.Side.TheVariants.{Key, Value}
pub use Rattle.yaml_parse_grammar.specs.declared.name.Site.TheVariants.{BlockPair, Entry, FlowPair, IndentlessEntry, Root}
pub use Rattle.yaml_parse_grammar.specs.declared.name.Wants.{Wants}
pub use Rattle.yaml_parse_grammar.specs.declared.name.Wants.TheVariants.{Block, Flow}
pub use Rattle.yaml_parse_grammar.specs.parse_model.Source.{HasMore, front_of, rest_of}
pub use Rattle.yaml_parse_grammar.specs.parse_model.declared.yaml_encoding_t.{yaml_encoding_t}
pub use Rattle.yaml_parse_laws_trees.specs.Aliases.{alias_fault, has_anchor, undefined}
pub use Rattle.yaml_parse_laws_trees.specs.CountsLaws.{AtMostFourSoFar, EventsAreFewSoFar, ItemsAreGiven, TokensHaveOneTree, TurnsFitTree}
pub use Rattle.yaml_parse_laws_trees.specs.Falling.{AreFalling}
pub use Rattle.yaml_parse_laws_trees.specs.Faults.{FaultOfLoading, FirstOf, IsFirstIn, IsLoadOwn, IsLoadable, LoadFaultAt, LoadRank, LoadRanksBefore, LoadStandsIn, LoadsSentence, LoadsUnfinished, of_alias, of_parser}
pub use Rattle.yaml_parse_laws_trees.specs.FaultsLaws.{EndsInFault, FaultEnds, FaultIsOne, FaultIsToldAtPlace}
pub use Rattle.yaml_parse_laws_trees.specs.FaultsRows.{AllHold, FaultRow, RowsHold, column, directive_rows, grammar_rows, other_rows}
pub use Rattle.yaml_parse_laws_trees.specs.Given.{BeginsWith, EndsAt, EventsOfTokens, GivesAt, IsLongest, LongestFront, but_last, events_at_next, events_of, events_of_front, first_items, gives_no_more, has_fault, is_end, last_leaves_open, leaves_open}
pub use Rattle.yaml_parse_laws_trees.specs.GivenLaws.{EventsAreOne, EventsAreRun, HasFront, ListHasFront, RunGivesEvents, RunGivesLeast, events_run}
pub use Rattle.yaml_parse_laws_trees.specs.Laws.{FaultEndsLoads, LoadFaultIsOne, LoadsEndInFault, loads_end}
pub use Rattle.yaml_parse_laws_trees.specs.LookBack.{NodeTag, asks_for_node, closes, directives_before, document_directives, ended_tag, followed_by, has_handle, has_version, in_brackets, is_directive, opened, opens, opens_brackets, starts_document, surrounding, tag_before_anchor, tag_behind, unless_joined}
pub use Rattle.yaml_parse_laws_trees.specs.NextLoad.{AreLoadsByContent, AreOutside, FrontsLoadByContent, GivesDocument, GivesLoad, GivesNoDocument, IsLoadOf, IsNextLoad, IsOutside, IsRefusalOf, LoadIsNext, LoadsByContent, NextLoad, NoneNext, RefusalIsNext, RefusesNext, and_anchor, contents_events, ended, is_among, load_unasked, names_behind, next_document, next_fault, next_none, one_more, or_later, told_events, unless_known, wrong_alias}
unfoldable pub use Rattle.yaml_parse_laws_trees.specs.NextLoad.{first_wrong, left_behind}
pub use Rattle.yaml_parse_laws_trees.specs.Places.{BeginsWithSentence, ComesBefore, FaultAt, FaultOfTokens, FaultPlace, IsFree, IsOfLeastPlace, IsOwn, IsToldWith, Rank, RanksBefore, StandsIn, WrongToken, directive, grammar, of_handle, of_token, with_end}
pub use Rattle.yaml_parse_laws_trees.specs.SoundLaws.{AcceptedAreSentences, AcceptedAreTrees, BeginsWithEvents, BeginsWithItems, BeginsWithTree, EventsBeginAsItems, FaultsStandAtFirst, FrontsAreNotRefused, RefusedAt, RunsOut, SentencesAreAccepted, StandsAtLoad, GoesOn, TreeGoesOnGiving, bare, told}
pub use Rattle.yaml_parse_laws_trees.specs.Wrong.{directive_fault, grammar_fault, handle_fault, handle_twice, is_version_1, no_document, no_node, no_part, not_going_on, tag_fault, undefined_handle, version_fault}
pub use Rattle.yaml_parse_laws_trees.specs.parse_grammar.Items.{Properties, RawEvent, RawEventBody, Shape, Tag, blank, item_at, node_at, properties_alone}
pub use Rattle.yaml_parse_laws_trees.specs.parse_grammar.Machine.{Fed, Outcome, carry, choice_at, content_taken, context_of, documents_taken, ending_at, entries_taken, finished, follows, given_by, go, initial, items_taken, joins, left_at, left_where_stopped, lone_below, more_taken, no_end, node_taken, pairs_taken, parts_documents, starts_content, starts_node, stop, tag_at, taken, taken_at, turn, wants_of, with_item, with_properties_taken}
unfoldable pub use Rattle.yaml_parse_laws_trees.specs.parse_grammar.Machine.{feed, run, unasked_at_stop}
pub use Rattle.yaml_parse_laws_trees.specs.parse_grammar.Problems.{parser_fault}
unfoldable pub use Rattle.yaml_parse_laws_trees.specs.parse_grammar.Problems.{context_place, context_text_of, problem_text_of}
pub use Rattle.yaml_parse_laws_trees.specs.parse_grammar.Remaining.{IsFinished, ParserRemaining, is_between, next_unasked, reading_of, unasked_of}
pub use Rattle.yaml_parse_laws_trees.specs.parse_grammar.Resolve.{Directives, Reading, Settled, Told, default_prefix, gave, is_known_version, no_directives, node_event, noted, or_default, placed, read_on, refused, resolved, settle, settle_body, unasked_on, with_resolved, with_tag, with_version}
unfoldable pub use Rattle.yaml_parse_laws_trees.specs.parse_grammar.Resolve.{directive_for, reading, unasked_at_fault}
pub use Rattle.yaml_parse_laws_trees.specs.parse_grammar.Stacks.{InsideAt, IsInner, IsInside, IsStack}
pub use Rattle.yaml_parse_laws_trees.specs.parse_grammar.States.{State, Taken}
pub use Rattle.yaml_parse_laws_trees.specs.parse_grammar.declared.name.Brackets.{Brackets}
pub use Rattle.yaml_parse_laws_trees.specs.parse_grammar.declared.name.Choice.{Choice}
pub use Rattle.yaml_parse_laws_trees.specs.parse_grammar.declared.name.Choice.TheVariants.{Leave, Open, Refuse, Take}
pub use Rattle.yaml_parse_laws_trees.specs.parse_grammar.declared.name.Site.{Site}
pub use Rattle.yaml_parse_laws_trees.specs.parse_grammar.declared.problem.ParseProblem.{ParseProblem}
pub use Rattle.yaml_parse_laws_trees.specs.parse_grammar.parse_model.Events.{Event, EventBody, TagDirective}
pub use Rattle.yaml_parse_model.specs.scan_types.Faults.{Fault, IsMemoryFault, load_layers, scan_layers}
pub use Rattle.yaml_parse_model.specs.scan_types.Tokens.{Token, TokenBody, no_token, type_of, zero_mark}
pub use Rattle.yaml_parse_laws_trees.specs.parse_grammar.parse_model.declared.yaml_encoding_t.TheVariants.{YAML_ANY_ENCODING}
pub use Rattle.yaml_parse_laws_trees.specs.parse_grammar.parse_model.declared.yaml_mark_t.{yaml_mark_t}
pub use Rattle.yaml_parse_laws_trees.specs.parse_grammar.parse_model.declared.yaml_scalar_style_t.{yaml_scalar_style_t}
pub use Rattle.yaml_parse_laws_trees.specs.parse_grammar.parse_model.declared.yaml_token_type_t.{yaml_token_type_t}
pub use Rattle.yaml_parse_laws_trees.specs.parse_grammar.parse_model.declared.yaml_version_directive_t.{yaml_version_directive_t}
pub use Rattle.yaml_parse_loader.specs.Anchors.{Anchors}
pub use Rattle.yaml_parse_loader.specs.Loading.{LoadStep, Loading, aliased, attach, behind, closed, goes_on, loaded, named, nothing_loaded, step, step_body}
unfoldable pub use Rattle.yaml_parse_loader.specs.Loading.{load}
pub use Rattle.yaml_parse_loader.specs.Numbering.{Contents, DocumentContent, Head, alias, document_events, document_of, events, is_same, item, item_events, mapping, no_items, no_pairs, pair, pair_events, scalar, sequence, spanning, undefined_alias}
