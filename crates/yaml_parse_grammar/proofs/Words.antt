-- The words of the definitions that the files of lemmas share.
pub use Rattle.yaml_parse_grammar.specs.Items.{Properties, RawEvent, RawEventBody, Shape, item_at, node_at}
pub use Rattle.yaml_parse_grammar.specs.Machine.{Fed, Outcome, Stands, carry, choice_at, closes, content_taken, documents_taken, finished, follows, given_by, go, joins, left_at, no_node, node_taken, opened, parts_documents, starts_content, starts_node, stop, stream_taken, taken_at, turn, wants_of, with_item}
unfoldable pub use Rattle.yaml_parse_grammar.specs.Machine.{feed, run}
pub use Rattle.yaml_parse_grammar.specs.Resolve.{Directives, Settled, gave, is_known_version, node_event, noted, read_on, refused, resolved, settle, settle_body, with_resolved, with_tag, with_version}
unfoldable pub use Rattle.yaml_parse_grammar.specs.Resolve.{directive_for, reading}
pub use Rattle.yaml_parse_grammar.specs.Stacks.{IsInner}
pub use Rattle.yaml_parse_grammar.specs.States.{State, Taken}
pub use Rattle.yaml_parse_grammar.specs.TreeSteps.{behind, items, items_maybe, items_node}
pub use Rattle.yaml_parse_grammar.specs.Trees.{Given, Span, next, spell_maybe, spell_node, token_at}
pub use Rattle.yaml_parse_grammar.specs.declared.name.Choice.{Choice}
pub use Rattle.yaml_parse_grammar.specs.declared.name.Choice.TheVariants.{Leave, Open, Refuse, Take}
pub use Rattle.yaml_parse_grammar.specs.declared.name.Site.{Site}
pub use Rattle.yaml_parse_grammar.specs.declared.name.Site.TheVariants.{BlockPair, Entry, FlowPair, IndentlessEntry, Root}
pub use Rattle.yaml_parse_grammar.specs.declared.name.Wants.{Wants}
pub use Rattle.yaml_parse_grammar.specs.declared.name.Wants.TheVariants.{Block, Flow}
pub use Rattle.yaml_parse_grammar.specs.declared.problem.ParseProblem.{ParseProblem}
pub use Rattle.yaml_parse_model.specs.Events.{EventBody, TagDirective}
pub use Rattle.yaml_parse_model.specs.scan_types.Faults.{Fault}
pub use Rattle.yaml_parse_model.specs.scan_types.Tokens.{Token, TokenBody, no_token, type_of}
pub use Rattle.yaml_parse_model.specs.declared.yaml_mark_t.{yaml_mark_t}
pub use Rattle.yaml_parse_model.specs.declared.yaml_scalar_style_t.{yaml_scalar_style_t}
pub use Rattle.yaml_parse_model.specs.declared.yaml_token_type_t.{yaml_token_type_t}
pub use Rattle.yaml_parse_model.specs.declared.yaml_version_directive_t.{yaml_version_directive_t}
