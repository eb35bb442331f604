-- The words of the definitions, and the lemmas below, that the files of lemmas share.
pub use Rattle.std.proofs.Math.Bool.{and-false, and-true, or-true}
pub use Rattle.std.proofs.lemmas.Bool.{and_parts, cases_Bool, eqb-true, false≢true, ltb-true, ne_eqb, not-true, or_parts, true≢false}
pub use Rattle.std.proofs.lemmas.Bool.Decides.{nat_tests}
pub use Rattle.yaml_emit_laws.proofs.Joining.{written_readable}
pub use Rattle.yaml_emit_laws.proofs.Resolving.{or_first, or_second}
pub use Rattle.yaml_emit_laws.specs.NodeBodies.{context_in, has_dots, is_bare, is_flow_at, is_left_out, is_nothing, is_root_kept, item_bodies, keeps, mapping_closes, mapping_opens, opening_bodies, pair_bodies, root_bodies, scalar_bodies, sequence_closes, sequence_opens, starts_with_nothing, stream_bodies, style_at, style_named, takes_mark, value_bodies}
unfoldable pub use Rattle.yaml_emit_laws.specs.NodeBodies.{documents_bodies, items_bodies, node_bodies, pairs_bodies}
pub use Rattle.yaml_round_content.proofs.CanonicalPremises.{Resolves, fine_tags, fine_version}
pub use Rattle.yaml_round_content.proofs.Growing.{Contained, Filled, Followed, IsNamed, Named, Reads, Spelt, alias_grown, also, bang, bracketed, brackets_done, brackets_end, comma_follows, dressed, dressed_named, full_is, full_of, grown, named_bodies, properties_if, scalar_contained, silent, some_named, some_tokens, spell_if, step_says, tag_bodies_are, tag_is_named, tag_named, tagged_event, take, tells, with_properties}
pub use Rattle.yaml_round_content.proofs.ReadBackLayouts.{Tame, both, break_tame, char_tame, choose_tame, gap_tame, keep_tame, letter_allowed, line_tame, new_line_tame, nothing_allowed, opener_tame, stay_tame, when_tame, word_tame}
pub use Rattle.yaml_round_content.specs.Adapting.{AreTagged, HaveTexts, IsReadableTag, IsTagged, PairsAreTagged, without_fault}
pub use Rattle.yaml_round_content.specs.BytesLaws.{AreSpellable, DocumentsAreSpellable, IsNameOption, IsSpellable, IsTextOption, PairsAreSpellable, canonical_bytes, canonical_text, encoding_named}
pub use Rattle.yaml_round_content.specs.TreeLaws.{AreParsable, Grown, HasNoMark, HaveNoMark, IsNoMark, PairsHaveNoMark, SaysTree, event_bodies, parsed_of, token_bodies}
pub use Rattle.yaml_emit_laws.specs.Bodies.{anchor_bodies, end_bodies, mark_bodies, tag_bodies, version_bodies}
unfoldable pub use Rattle.yaml_emit_laws.specs.Bodies.{directives_bodies}
pub use Rattle.yaml_emit_laws.specs.PrettyBodies.{comma_bodies, start_bodies}
pub use Rattle.yaml_emit_laws.specs.TagsLaws.{HaveUtf8, IsReadable}
pub use Rattle.yaml_emit_laws.specs.emit_layout.Content.{Document, Event, Node, Nodes, Opening, Pairs, Scalar, Start, alias_node, document_end, document_start, mapping_node, no_nodes, no_pairs, node, pair, scalar, scalar_node, sequence_node, stream_events, stream_start}
unfoldable pub use Rattle.yaml_emit_laws.specs.emit_layout.Content.{documents_events, node_events}
pub use Rattle.yaml_emit_laws.specs.emit_layout.Grammar.{anchor_problem, directives_problem, has, kept_if, kept_tag, name_problem, opening_problem, or_else, own_problem, scalar_tag, start_tag, tag_problem, version_problem}
unfoldable pub use Rattle.yaml_emit_laws.specs.emit_layout.Grammar.{event_problem, last_problem, own_problems}
pub use Rattle.yaml_emit_laws.specs.emit_layout.Nodes.{Context, MOST, anchor_text, are_no_pairs, are_none, checked, comma, context_of, dashes, deep_if, deeper, directive_text, dots, has_directives, has_version, indent_of, indented, is_directed, is_flow, is_kept, is_marked, is_of_mapping, is_plain, is_simple, is_simple_part, key_part, line_at, mark_text, page_at, position, properties_text, question, root_position, tag_text, version_text, wrap_at}
unfoldable pub use Rattle.yaml_emit_laws.specs.emit_layout.Nodes.{alias_layout, before_item, before_key, before_value, closer, directives_text, documents_layout, end_layout, items_layout, node_layout, pairs_layout, scalar_layout, start_layout, stop_layout, stream_layout, style_of, turned}
pub use Rattle.yaml_emit_laws.specs.emit_layout.declared.level.NodePosition.{NodePosition}
pub use Rattle.yaml_emit_laws.specs.emit_layout.declared.level.Part.{Part}
pub use Rattle.yaml_emit_laws.specs.emit_layout.Quoted.{first, is_empty, is_printable, quoted_body}
pub use Rattle.yaml_emit_laws.specs.emit_layout.Scalars.{adds_break, block, block_header, block_text, chomp, chomp_mark, cut, cuts_at, cuts_block, digit_char, digit_mark, line_blank, quote_char, text_char, value_break}
unfoldable pub use Rattle.yaml_emit_laws.specs.emit_layout.Scalars.{block_body, block_char, flow_body, flow_char, scalar_text}
pub use Rattle.yaml_emit_laws.specs.emit_layout.Style.{allowed_text, ends_in_space, is_break_space, is_not_flow, is_not_plain, is_special, plain_fits, plain_or, single_or, starts_badly}
unfoldable pub use Rattle.yaml_emit_laws.specs.emit_layout.Style.{allowed, somewhere, taken}
pub use Rattle.yaml_emit_laws.specs.emit_layout.declared.Allowed.{Allowed}
pub use Rattle.yaml_emit_laws.specs.emit_layout.declared.Cursor.{Cursor}
pub use Rattle.yaml_emit_laws.specs.emit_layout.declared.Encoding.{Encoding}
pub use Rattle.yaml_emit_laws.specs.emit_layout.declared.LineBreak.{LineBreak}
pub use Rattle.yaml_emit_laws.specs.emit_layout.declared.Page.{Page}
pub use Rattle.yaml_emit_laws.specs.emit_layout.declared.Settings.{Settings}
pub use Rattle.yaml_emit_laws.specs.emit_layout.declared.Style.{Style}
pub use Rattle.yaml_emit_laws.specs.parse_grammar.Items.{Properties, RawEvent, Shape, node_at}
pub use Rattle.yaml_emit_laws.specs.parse_grammar.Machine.{initial}
unfoldable pub use Rattle.yaml_emit_laws.specs.parse_grammar.Machine.{feed, run}
pub use Rattle.yaml_emit_laws.specs.parse_grammar.Resolve.{Directives, Reading, Told, gave, is_missing, no_directives, node_event, settle}
unfoldable pub use Rattle.yaml_emit_laws.specs.parse_grammar.Resolve.{reading}
pub use Rattle.yaml_emit_laws.specs.parse_grammar.TreeSteps.{behind, items, items_documents, items_ends, items_entries, items_maybe, items_node, items_others, items_pairs}
pub use Rattle.yaml_emit_laws.specs.parse_grammar.Trees.{Given, PropertyTokens, Span, block_pair, colon, end_entries, end_pairs, entry, no_first, no_others, other, properties_of, single, spell_directives, spell_documents, spell_ends, spell_entries, spell_maybe, spell_node, spell_others, spell_pairs, token_at}
pub use Rattle.yaml_emit_laws.specs.parse_grammar.declared.name.Site.TheVariants.{BlockPair, Entry, FlowPair, IndentlessEntry, Root}
pub use Rattle.yaml_parse_model.specs.Events.{EventBody, TagDirective}
pub use Rattle.yaml_parse_model.specs.declared.yaml_encoding_t.{yaml_encoding_t}
pub use Rattle.yaml_parse_model.specs.declared.yaml_encoding_t.TheVariants.{YAML_ANY_ENCODING}
pub use Rattle.yaml_parse_model.specs.declared.yaml_mapping_style_t.TheVariants.{YAML_ANY_MAPPING_STYLE, YAML_BLOCK_MAPPING_STYLE, YAML_FLOW_MAPPING_STYLE}
pub use Rattle.yaml_parse_model.specs.declared.yaml_scalar_style_t.{yaml_scalar_style_t}
pub use Rattle.yaml_parse_model.specs.declared.yaml_sequence_style_t.TheVariants.{YAML_ANY_SEQUENCE_STYLE, YAML_BLOCK_SEQUENCE_STYLE, YAML_FLOW_SEQUENCE_STYLE}
pub use Rattle.yaml_round_content.specs.Events.{contents, emitter_events}
pub use Rattle.yaml_round_content.specs.Input.{ending_of, events_of, parsed, tokens_of}
unfoldable pub use Rattle.yaml_round_content.specs.Input.{read}
pub use Rattle.yaml_round_content.specs.Normalize.{is_lone_mark, normalize_body, normalize_scalar}
pub use Rattle.yaml_emit_laws.specs.emit_layout.Layout.{Layout, Rest, after_block, after_text, blank, break, char, choose, gap, indent_to, indicator, is_past, is_white, keep, must_break, new_line, nothing_more, opener, start, stay, when, word, written, ◌▹◌}
unfoldable pub use Rattle.yaml_emit_laws.specs.emit_layout.Layout.{blanks, letters, line}
pub use Rattle.yaml_emit_laws.specs.emit_layout.Text.{Item, deep, is_break, letter}
unfoldable pub use Rattle.yaml_emit_laws.specs.emit_layout.Text.{char_bytes, encode, shown}
pub use Rattle.yaml_parse_model.specs.scan_types.Tokens.{Token, TokenBody}
unfoldable pub use Rattle.yaml_emit_laws.specs.scan_decode.Encodings.{encoding_of, mark_length}
pub use Rattle.yaml_round_content.specs.Flags.{HasFlags, HasScalarFlags, HasStartFlags, HaveFlags, HaveReaderFlags, PairsHaveFlags, begins_with_nothing, is_asked_plain, says_nothing}
pub use Rattle.yaml_round_content.specs.InputLaws.{HaveNoMarks, InputsAreParsable, InputsHaveReaderFlags, JsonBeginsWithSomething}
pub use Rattle.yaml_round_content.specs.PrettyLaws.{InputsLayoutIsWritable, PrettyBytesDecode, PrettyFollows, PrettyIsLost, PrettyReadsBack}
pub use Rattle.yaml_round_content.specs.PrettyReads.{mapping_style, root_reads, scalar_reads, sequence_style, stream_reads}
unfoldable pub use Rattle.yaml_round_content.specs.PrettyReads.{documents_reads, items_reads, node_reads, pairs_reads}
pub use Rattle.yaml_round_content.specs.TokenLaws.{BeginningIsTold, PrettyTokensAreLost, PrettyTokensAreParsed, PrettyTokensPass, PrettyTokensSayDocuments}
