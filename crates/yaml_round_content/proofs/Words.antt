-- The words of the definitions, and the lemmas below, that the files of lemmas share.
pub use Rattle.std.proofs.Math.Bool.{and-false, or-true}
pub use Rattle.std.proofs.lemmas.Bool.{and_parts, cases_Bool, eqb-true, true≢false}
pub use Rattle.std.proofs.lemmas.Bool.Decides.{nat_tests}
pub use Rattle.std.proofs.lemmas.Grind.{common_steps, flat_map-append}
pub use Rattle.std.proofs.lemmas.List.{append-nil, append_assoc, get_or_past, length-map, map-append}
pub use Rattle.std.proofs.lemmas.List.Elements.{All-head, All-nil, All-tail}
pub use Rattle.std.proofs.lemmas.Slice.Eq.{bytes_eq-Decides}
pub use Rattle.std.specs.Cmp.Lexicographic.{nat_list_cmp_total, slice_cmp}
pub use Rattle.std.specs.List.{AllPass, flat_map, list_all, list_any}
pub use Rattle.std.specs.Ordering.{eq_by_cmp, nat_cmp}
pub use Rattle.std.specs.Prelude.{false, if◌then◌else◌, pos, slice_get, slice_index, ◌++◌, ◌+◌}
pub use Rattle.std.specs.Str.{all_scalars, bytes_eq, chars}
pub use Rattle.yaml_emit_laws.proofs.Passing.{fronts, or_both, own_right, streams}
pub use Rattle.yaml_emit_laws.proofs.Throughout.{Each, GivenAre, IsTextless, Outer, bare_textless, run_are}
pub use Rattle.yaml_emit_laws.specs.Dumps.{HasKind, IsLoadedDocument, IsLoadedNode, as_content, as_contents, as_pairs, core_document, head_of}
pub use Rattle.yaml_emit_laws.specs.DumpsLaws.{DocumentsAreLoaded, DumpsNumberBack}
pub use Rattle.yaml_emit_laws.specs.emit_layout.Grammar.{anchor_problem, begins_node, directive_problem, has, has_handle, kept_if, name_problem, node_problem, opening_problem, or_else, own_problem, prefix_problem, tag_problem, twice_problem, version_problem}
unfoldable pub use Rattle.yaml_emit_laws.specs.emit_layout.Grammar.{directives_problem, event_problem, handle_problem, last_problem, own_problems, place_problem, problem_by}
pub use Rattle.yaml_emit_laws.specs.emit_layout.Progress.{Due, Progress, at_place, behind_node, first_progress, inside, item_due, key_due, level_due, outer_due, problem_in}
unfoldable pub use Rattle.yaml_emit_laws.specs.emit_layout.Progress.{first_refusal, progress_after}
pub use Rattle.yaml_emit_laws.specs.emit_layout.declared.Expected.{Expected}
pub use Rattle.yaml_emit_laws.specs.emit_layout.declared.Problem.{Problem}
pub use Rattle.yaml_emit_laws.specs.scan_types.Classes.{is_alpha_byte, width_of}
pub use Rattle.yaml_emit_laws.specs.parse_grammar.Items.{Properties, RawEvent, RawEventBody, Shape, Shape as Kind, Tag, item_at, node_at}
pub use Rattle.yaml_emit_laws.specs.parse_grammar.Machine.{Fed, Outcome, at_end, carry, choice_at, content_taken, documents_taken, finished, given_by, go, initial, left_at, node_taken, stop, taken, taken_at, wants_of, with_item}
unfoldable pub use Rattle.yaml_emit_laws.specs.parse_grammar.Machine.{feed, run}
pub use Rattle.yaml_emit_laws.specs.parse_grammar.States.{State, Taken}
pub use Rattle.yaml_emit_laws.specs.parse_grammar.declared.Choice.{Choice}
pub use Rattle.yaml_emit_laws.specs.parse_grammar.declared.Choice.TheVariants.{Leave, Refuse, Take}
pub use Rattle.yaml_emit_laws.specs.parse_grammar.declared.Site.TheVariants.{Root}
pub use Rattle.yaml_emit_laws.specs.parse_grammar.declared.Wants.{Wants}
pub use Rattle.yaml_parse_loader.specs.Loading.{LoadStep, Loading, Open, aliased, attach, behind, closed, enter_leaf, enter_open, filled, filled_body, goes_on, loaded, named, nothing_loaded, open_mapping, open_sequence, place_of, step, step_body, turn}
unfoldable pub use Rattle.yaml_parse_loader.specs.Loading.{load}
pub use Rattle.yaml_parse_loader.specs.Numbering.{Anchored, DocumentContent, Numbered, and_node, document_events, document_of, events, is_bang, item_events, loaded_tag, mapping_node, pair_events, sequence_node, spanning, ◌>>=◌}
unfoldable pub use Rattle.yaml_parse_loader.specs.Numbering.{number, number_items, number_pairs}
pub use Rattle.yaml_parse_loader.specs.Order.{VisitsInPreorder, again, children, done, first}
pub use Rattle.yaml_round_content.specs.Agree.{Agrees, Core, CoreNode, LoadAlike, core_body, core_node, core_of}
pub use Rattle.yaml_round_content.specs.Canon.{canon_items, written_documents, written_node, written_nodes, written_pairs, written_scalar}
pub use Rattle.yaml_round_content.specs.Content.{content_of, counts_as_plain}
pub use Rattle.yaml_round_content.specs.ContentLaws.{AreFlagged, ContentIsLaidOut, InputsHaveContent, InputsSayFronts, IsFlagged, IsFlaggedScalar, IsSet, LayoutIsOfContent, SaysIsInjective}
pub use Rattle.yaml_round_content.specs.DumpsEvents.{AreLoadedDocuments, content_events, events_saying, load_each, load_of, loaded_again, loader_content, told_by, trees_of_dumps, unplaced}
pub use Rattle.yaml_round_content.specs.DumpsLaws.{ContentIsLoaded, ContentIsSaid, ContentLoadsDocuments, DumpsAreNumberedBack, DumpsLoadBack, InputsLoadDocuments}
pub use Rattle.yaml_round_content.specs.DumpsLoads.{AgreeingSayTheSame, LoadsOfContent, LoadsOfRenamed}
pub use Rattle.yaml_round_content.specs.EncodingsLaws.{CharactersAreEnough, EncodingsDoNotMatter, IsNamed}
pub use Rattle.yaml_round_content.specs.Events.{contents, emitter_events}
pub use Rattle.yaml_round_content.specs.Input.{ending_of, events_of, parsed, tokens_of}
unfoldable pub use Rattle.yaml_round_content.specs.Input.{read}
pub use Rattle.yaml_round_content.specs.Loading.{EventsArePlaced, InputsAreNumbered, LoadsAreNumbered, LoadsAreOneByOne, by_next, end_of, events_told, placed_events, read_of, tree_events}
pub use Rattle.yaml_round_content.specs.Loads.{Loads, in_front, load_on, loads_of, no_more}
unfoldable pub use Rattle.yaml_round_content.specs.Loads.{load_all}
pub use Rattle.yaml_round_content.specs.Normalize.{is_lone_mark, normalize_body, normalize_scalar}
pub use Rattle.yaml_round_content.specs.Normalized.{IsNormalized, IsNormalizing}
pub use Rattle.yaml_round_content.specs.Reading.{EventsAreOfTree, HaveContent, InputsRead, ReadIsRefused, ReadIsSaid, ReadingIsOne, RefusedIsRead, SaidIsRead, TokensRead}
pub use Rattle.yaml_round_content.specs.Said.{Document, HasContent, Node, Nodes, Pairs, ScalarMark, alias, mapping, no_nodes, no_pairs, node, pair, scalar, scalar_says, sequence, stream_says, tagged, untagged}
unfoldable pub use Rattle.yaml_round_content.specs.Said.{documents_say, items_say, node_says, pairs_say}
pub use Rattle.yaml_round_content.specs.StreamsLaws.{InputsAreFronts, InputsAreStreams, InputsLoadRight, IsRightReading, ParsedIsRight, emitter_events_by, parsed_input}
pub use Rattle.yaml_round_content.specs.TreeContent.{anchor_of, behind_first, colon_of, documents_of, empty, entries_of, full_tag, in_full, is_plain, items_of, mark_of, maybe_of, more_items_of, more_parts_of, node_of, others_of, pairs_of, parts_of, prefix_of, tag_of, tags_in, tree_content, version_in, with_content}
pub use Rattle.yaml_round_content.specs.TreeDocuments.{begins, ends_at, ends_before, ends_implicitly, entries_end, head, is_untagged, items_end, more_end, nothing_at, loaded_documents, numbered_one, pairs_end, placed_colon, placed_content, placed_documents, placed_empty, placed_entries, placed_first, placed_items, placed_maybe, placed_more_items, placed_more_parts, placed_node, placed_others, placed_pairs, placed_parts, placed_scalar, tree_documents}
pub use Rattle.yaml_round_content.specs.Trees.{document_tree, document_trees, pair_trees_of, tree_of, trees_of}
pub use Rattle.yaml_round_content.specs.Writable.{AreItemsWritable, ArePairsWritable, AreWritable, HavePrefixes, IsAnchor, IsMark, IsTag, IsWritable}
pub use Rattle.yaml_round_content.specs.WritableLaws.{HaveUtf8Texts, InputsAreFlagged, InputsAreWritable, InputsContentIsLaidOut, InputsHaveUtf8, LayoutIsOfInputsContent}
pub use Rattle.yaml_emit_laws.specs.StreamsLaws.{AreRightTold, IsEmittable}
unfoldable pub use Rattle.yaml_emit_laws.specs.StreamsLaws.{progress_behind}
pub use Rattle.yaml_emit_laws.specs.emit_graph.Graph.{Met, body_at, body_of_id, graph_content, is_met, meet, none_met, none_numbered, number_at, tag_at, tag_of_id, turns}
unfoldable pub use Rattle.yaml_emit_laws.specs.emit_graph.Graph.{numbers}
pub use Rattle.yaml_emit_laws.specs.emit_layout.Content.{Opening, Scalar, Start, alias_node, emitter_event, scalar_node}
pub use Rattle.yaml_emit_laws.specs.emit_layout.Nodes.{Context, before_item, before_key, before_value, checked, deeper, end_layout, key_part, page_at, position, properties_text, root_position}
unfoldable pub use Rattle.yaml_emit_laws.specs.emit_layout.Nodes.{documents_layout, is_simple, is_simple_alias, is_simple_scalar, is_simple_start, items_layout, node_layout, pairs_layout, scalar_layout, start_layout, stream_layout, style_of}
pub use Rattle.yaml_emit_laws.specs.emit_layout.Layout.{Layout, opener, order_mark, when, word, written, ◌▹◌}
pub use Rattle.yaml_emit_laws.specs.emit_layout.declared.Settings.{Settings}
pub use Rattle.yaml_emit_laws.specs.parse_grammar.Resolve.{Directives, Reading, Settled, Told, behind_event, default_prefix, gave, is_known_version, no_directives, node_event, noted, or_default, placed, read_on, refused, resolved, settle, settle_body, with_resolved, with_tag, with_version}
unfoldable pub use Rattle.yaml_emit_laws.specs.parse_grammar.Resolve.{directive_for, reading}
pub use Rattle.yaml_emit_laws.specs.parse_grammar.TreeSteps.{items, items_colon, items_content, items_directives, items_documents, items_ends, items_entries, items_first, items_items, items_maybe, items_more, items_node, items_others, items_pairs}
pub use Rattle.yaml_emit_laws.specs.parse_grammar.Trees.{Directive, Documents, First, Given, Span, Stream, event_at, next, properties_of, spell_documents, spell_ends, spell_node, start_of}
pub use Rattle.yaml_emit_laws.specs.parse_grammar.declared.Side.{Side}
pub use Rattle.yaml_emit_laws.specs.parse_grammar.declared.Site.{Site}
pub use Rattle.yaml_emit_laws.specs.parse_laws_trees.Places.{BeginsWithSentence, FaultOfTokens}
pub use Rattle.yaml_parse_model.specs.Documents.{change_place, map_tag, seq_tag, str_tag}
pub use Rattle.yaml_parse_model.specs.Constructors.{AreUtf8, HasUtf8, IsUtf8Option}
pub use Rattle.yaml_parse_model.specs.Events.{Event, EventBody, TagDirective}
pub use Rattle.yaml_parse_model.specs.declared.yaml_node_pair_t.{yaml_node_pair_t}
pub use Rattle.yaml_scan_laws.specs.scan_history.Scanned.{scanned, scanned_in}
pub use Rattle.yaml_scan_laws.specs.scan_decode.Characters.{between, character_at, is_allowed, is_high_surrogate, is_low_surrogate, is_trailing, least_code, utf8_code}
unfoldable pub use Rattle.yaml_scan_laws.specs.scan_decode.Characters.{allowed_at, sequence_of, utf16_of, utf8_of, valued_at}
pub use Rattle.yaml_scan_laws.specs.scan_decode.Decoding.{decoded_characters, decoded_text, in_utf8, led_by}
unfoldable pub use Rattle.yaml_scan_laws.specs.scan_decode.Decoding.{characters}
pub use Rattle.yaml_scan_laws.specs.scan_decode.Encodings.{begins_high_first, begins_low_first, begins_utf8}
unfoldable pub use Rattle.yaml_scan_laws.specs.scan_decode.Encodings.{encoding_of, mark_length}
pub use Rattle.yaml_scan_laws.specs.scan_decode.declared.offence.Offence.{Offence}
pub use Rattle.yaml_parse_model.specs.scan_types.Faults.{Fault}
pub use Rattle.yaml_parse_model.specs.scan_types.Tokens.{Token, TokenBody, no_token, stream_start, type_of, zero_mark}
pub use Rattle.yaml_parse_model.specs.scan_model.declared.name.yaml_encoding_t.{yaml_encoding_t}
pub use Rattle.yaml_parse_model.specs.scan_model.declared.name.yaml_encoding_t.TheVariants.{YAML_ANY_ENCODING, YAML_UTF16BE_ENCODING, YAML_UTF16LE_ENCODING, YAML_UTF8_ENCODING}
pub use Rattle.yaml_parse_model.specs.scan_model.declared.name.yaml_mapping_style_t.TheVariants.{YAML_ANY_MAPPING_STYLE, YAML_FLOW_MAPPING_STYLE}
pub use Rattle.yaml_parse_model.specs.scan_model.declared.record.yaml_mark_t.{yaml_mark_t}
pub use Rattle.yaml_parse_model.specs.scan_model.declared.name.yaml_scalar_style_t.{yaml_scalar_style_t}
pub use Rattle.yaml_parse_model.specs.scan_model.declared.name.yaml_scalar_style_t.TheVariants.{YAML_ANY_SCALAR_STYLE, YAML_PLAIN_SCALAR_STYLE}
pub use Rattle.yaml_parse_model.specs.scan_model.declared.name.yaml_sequence_style_t.TheVariants.{YAML_ANY_SEQUENCE_STYLE}
pub use Rattle.yaml_parse_model.specs.scan_model.declared.record.yaml_version_directive_t.{yaml_version_directive_t}
pub use Rattle.yaml_scan_laws.proofs.CompleteLemmas.{decoded_spells, spells_decoded}
pub use Rattle.yaml_round_content.specs.Adapted.{adapted, cut, spells_text, tag_fault, with_token}
pub use Rattle.yaml_scan_laws.specs.Spelled.{AreAlphas, AreSpelled, IsHandle, IsName, IsSome, IsSpelled}
pub use Rattle.yaml_scan_laws.specs.scan_history.Remaining.{Remaining, SpelledText, all, before, body_by, end_tokens, handed, kept_of, offline, own_tokens, spell, start_tokens, token_in}
unfoldable pub use Rattle.yaml_scan_laws.specs.scan_history.Remaining.{remaining}
pub use Rattle.yaml_scan_laws.specs.scan_decode.Spelling.{Spells, spellings}
