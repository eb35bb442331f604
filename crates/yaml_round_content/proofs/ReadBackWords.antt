-- The words of the definitions, and the lemmas below, that the files of lemmas share.
pub use Rattle.std.proofs.lemmas.Bool.{and_parts, cases_Bool, cases_lt, eqb-true, ltb-true, not-false, or_parts, true≢false}
pub use Rattle.std.proofs.lemmas.Bool.Decides.{nat_tests}
pub use Rattle.std.proofs.lemmas.List.Elements.{All-cons, All-nil}
pub use Rattle.std.proofs.lemmas.Slice.Eq.{bytes_eq-Decides}
pub use Rattle.std.proofs.lemmas.Str.{IsUtf8-nil, is_utf8-from_IsUtf8, scalars-chars}
pub use Rattle.std.specs.List.{AllPass, list_all, list_any}
pub use Rattle.yaml_emit_laws.proofs.Joining.{if_none, last_rest, long_rest, none_all, written_readable}
pub use Rattle.yaml_emit_laws.proofs.Resolving.{none_true, or_first, or_second, tags_resolve}
pub use Rattle.yaml_emit_laws.specs.Bodies.{anchor_bodies, end_bodies, mark_bodies, tag_bodies, tag_body, version_bodies}
unfoldable pub use Rattle.yaml_emit_laws.specs.Bodies.{directives_bodies, documents_bodies, items_bodies, node_bodies, pairs_bodies}
pub use Rattle.yaml_emit_laws.specs.TagsLaws.{HaveUtf8, IsReadable, WrittenTagsAreReadable, resolved_split}
pub use Rattle.yaml_emit_laws.specs.emit_layout.Content.{Document, Node, Nodes, Opening, Pairs, Scalar, Start, alias_node, mapping_node, no_nodes, no_pairs, node, pair, scalar_node, sequence_node}
pub use Rattle.yaml_emit_laws.specs.emit_layout.Grammar.{between, directive_problem, ends_problem, has, has_handle, inner_problem, opening_problem, or_else, own_problems, prefix_problem, twice_problem, version_problem}
unfoldable pub use Rattle.yaml_emit_laws.specs.emit_layout.Grammar.{directives_problem, handle_problem}
pub use Rattle.yaml_emit_laws.specs.emit_layout.Nodes.{Context, MOST, anchor_text, checked, dashes, deep_if, directive_text, dots, is_directed, line_at, properties_text, tag_text, version_text, version_word}
unfoldable pub use Rattle.yaml_emit_laws.specs.emit_layout.Nodes.{directives_text, documents_layout, start_layout, stop_layout, stream_layout}
pub use Rattle.yaml_emit_laws.specs.emit_layout.Tags.{Split, defaults, defines, has_shorter_prefix, in_force, keeps_byte, prefix_keeps, primary, secondary, shorthand, split_by, split_tag, tag_spelling, unless_defined, uri_byte, verbatim}
unfoldable pub use Rattle.yaml_emit_laws.specs.emit_layout.Tags.{spelled, suffix_keeps, uri_text}
pub use Rattle.yaml_emit_laws.specs.emit_layout.Layout.{Layout, Rest, blank, break, char, choose, gap, indent_to, is_past, is_white, keep, must_break, new_line, nothing_more, opener, order_mark, start, stay, when, word, written, ◌▹◌}
unfoldable pub use Rattle.yaml_emit_laws.specs.emit_layout.Layout.{blanks, letters, line}
pub use Rattle.yaml_emit_laws.specs.emit_layout.Quoted.{quoted_text, escaped, first, fold, hex_4, hex_8, is_empty, is_printable, may_fold}
unfoldable pub use Rattle.yaml_emit_laws.specs.emit_layout.Quoted.{escape_letter, escape_text, needs_escape, quoted_body, quoted_char}
pub use Rattle.yaml_emit_laws.specs.emit_layout.Text.{Item, deep, is_break, letter, unit_bytes}
unfoldable pub use Rattle.yaml_emit_laws.specs.emit_layout.Text.{char_bytes, encode, shown}
pub use Rattle.yaml_emit_laws.specs.emit_layout.declared.Encoding.TheVariants.{Utf16Be, Utf16Le, Utf8}
pub use Rattle.yaml_emit_laws.specs.emit_layout.declared.Settings.{Settings}
pub use Rattle.yaml_emit_laws.specs.scan_decode.Decoding.{decoded_text}
unfoldable pub use Rattle.yaml_emit_laws.specs.scan_decode.Encodings.{encoding_of, mark_length}
pub use Rattle.yaml_emit_laws.specs.scan_decode.Spelling.{Spells, spelling, spellings, units_bytes}
pub use Rattle.yaml_emit_laws.specs.scan_types.Faults.{Fault}
pub use Rattle.yaml_emit_laws.specs.scan_types.Tokens.{Token, TokenBody}
pub use Rattle.yaml_emit_laws.specs.scan_model.declared.record.yaml_version_directive_t.{yaml_version_directive_t}
pub use Rattle.yaml_round_content.proofs.Agreeing.{document_loaded, dumps_loaded}
pub use Rattle.yaml_emit_laws.proofs.Contents.{dumped_streams, root_holds}
pub use Rattle.yaml_round_content.proofs.DumpsContents.{loads_of_contents, loads_said, on_same}
pub use Rattle.yaml_round_content.proofs.Layouts.{NodeFlagged, NodesFlagged, Normalize, PairsFlagged, content_laid_out, layouts_of_content, normal_layout}
pub use Rattle.yaml_round_content.specs.Agree.{Agrees, Core, CoreNode, core_of}
pub use Rattle.yaml_round_content.specs.Canon.{canonical_layout, canon_encoding, canon_items, written_document, written_documents, written_node, written_nodes, written_pairs, written_scalar}
pub use Rattle.yaml_round_content.specs.ContentLaws.{InputsSayFronts, SaysIsInjective}
pub use Rattle.yaml_round_content.specs.DumpsEvents.{AreLoadedDocuments, content_events, events_saying, load_each, told_by, trees_of_dumps, unplaced}
pub use Rattle.yaml_round_content.specs.DumpsLaws.{ContentIsLoaded, ContentLoadsDocuments, DumpsLoadBack}
pub use Rattle.yaml_round_content.specs.Events.{contents}
pub use Rattle.yaml_round_content.specs.Input.{ending_of, events_of, parsed, tokens_of}
unfoldable pub use Rattle.yaml_round_content.specs.Input.{read}
pub use Rattle.yaml_round_content.specs.Loads.{Loads, in_front, load_on, loads_of}
unfoldable pub use Rattle.yaml_round_content.specs.Loads.{load_all}
pub use Rattle.yaml_round_content.specs.Said.{HasContent, ScalarMark, alias, mapping, scalar, scalar_says, sequence, stream_says, tagged, untagged}
unfoldable pub use Rattle.yaml_round_content.specs.Said.{documents_say, items_say, node_says, pairs_say}
pub use Rattle.yaml_round_content.specs.Trees.{document_tree, pair_trees_of, tree_of, trees_of}
pub use Rattle.yaml_round_content.specs.Writable.{AreItemsWritable, ArePairsWritable, AreWritable, HavePrefixes, IsAnchor, IsMark, IsName, IsTag, IsWritable, IsWritableDocument}
pub use Rattle.yaml_round_content.specs.WritableLaws.{HaveUtf8Texts, InputsContentIsLaidOut, InputsHaveUtf8, LayoutIsOfInputsContent}
pub use Rattle.yaml_emit_laws.specs.Dumps.{IsLoadedDocument, as_content, as_contents, as_pairs}
pub use Rattle.yaml_emit_laws.specs.StreamsLaws.{AreRight, AreRightTold, RightDocument, RightFed}
pub use Rattle.yaml_emit_laws.specs.emit_graph.Graph.{body_at, body_of_id, graph_content, graph_root, graph_scalar, name_of, tag_at, tag_of_id}
pub use Rattle.yaml_emit_laws.specs.parse_grammar.Resolve.{Directives, Reading, Settled, Told, gave, is_known_version, no_directives, node_event, noted, read_on, resolved, settle, with_resolved, with_tag, with_version}
unfoldable pub use Rattle.yaml_emit_laws.specs.parse_grammar.Resolve.{directive_for, reading}
pub use Rattle.yaml_emit_laws.specs.parse_grammar.TreeSteps.{items, items_content, items_directives, items_documents, items_ends, items_items, items_more, items_node}
pub use Rattle.yaml_emit_laws.specs.parse_grammar.Trees.{Given, Items, More, PropertyTokens, Span, closing, colon, comma, end_event, end_items, end_more, flow_shape, no_first, opening, properties_of, single, spell_content, spell_directives, spell_documents, spell_ends, spell_items, spell_more, spell_node, spell_properties, there, token_at}
pub use Rattle.yaml_emit_laws.specs.parse_grammar.declared.name.Wants.TheVariants.{Block, Flow}
pub use Rattle.yaml_parse_model.specs.Documents.{AreSound, IsDocument, IsSoundBody, str_tag}
pub use Rattle.yaml_parse_loader.specs.Loading.{LoadStep, Loading, goes_on, loaded, nothing_loaded, refused, step}
pub use Rattle.yaml_parse_loader.specs.Numbering.{events, is_bang, item_events, pair_events}
pub use Rattle.yaml_parse_model.specs.Events.{Event, EventBody, TagDirective}
pub use Rattle.yaml_parse_model.specs.declared.yaml_mark_t.{yaml_mark_t}
pub use Rattle.yaml_round_content.specs.Adapting.{AreTagged, CanonicalTokensPass, HaveTexts, IsReadableTag, IsTagged, PairsAreTagged, without_fault}
pub use Rattle.yaml_round_content.specs.Back.{CanonIsLaidOutAgain, CanonIsScanned, CanonReadsBack, CanonTellsContents, CanonTellsInputs, CanonicalReadsBack}
pub use Rattle.yaml_round_content.specs.BytesLaws.{CanonicalBytesDecode, DocumentsAreSpellable, IsNameOption, IsTextOption, canonical_bytes, canonical_text, encoding_named}
pub use Rattle.yaml_round_content.specs.CanonicalTokens.{CanonicalTokensSayContent}
pub use Rattle.yaml_round_content.specs.CanonicalLaws.{AllLoadDocuments, LoadedAreSound, LoadedAreWritable}
pub use Rattle.yaml_round_content.specs.Reads.{begins_directed, scalar_reads}
unfoldable pub use Rattle.yaml_round_content.specs.Reads.{documents_reads, items_reads, node_reads, pairs_reads}
pub use Rattle.yaml_round_content.specs.TreeLaws.{AreParsable, CanonicalTokensAreParsed, Grown, HasNoMark, HaveNoMark, IsNoMark, NodesAreParsed, PairsHaveNoMark, SaysTree, event_bodies, parsed_of, token_bodies}
pub use Rattle.yaml_scan_laws.specs.scan_history.Remaining.{Remaining}
unfoldable pub use Rattle.yaml_parse_model.specs.scan_types.Classes.{is_alpha_byte, is_digit_byte}
pub use Rattle.yaml_parse_model.specs.scan_model.declared.name.yaml_encoding_t.{yaml_encoding_t}
pub use Rattle.yaml_parse_model.specs.scan_model.declared.name.yaml_encoding_t.TheVariants.{YAML_ANY_ENCODING, YAML_UTF16BE_ENCODING, YAML_UTF16LE_ENCODING, YAML_UTF8_ENCODING}
pub use Rattle.yaml_parse_model.specs.scan_model.declared.name.yaml_mapping_style_t.TheVariants.{YAML_ANY_MAPPING_STYLE}
pub use Rattle.yaml_parse_model.specs.scan_model.declared.name.yaml_scalar_style_t.TheVariants.{YAML_ANY_SCALAR_STYLE, YAML_DOUBLE_QUOTED_SCALAR_STYLE}
pub use Rattle.yaml_parse_model.specs.scan_model.declared.name.yaml_sequence_style_t.TheVariants.{YAML_ANY_SEQUENCE_STYLE}
pub use Rattle.yaml_round_content.specs.Adapted.{adapted, cut, spells_text, with_token}
