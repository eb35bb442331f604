-- The words of the definitions that the files of lemmas share.
pub use Rattle.yaml_parse_grammar.specs.Items.{RawEvent, item_at}
pub use Rattle.yaml_parse_grammar.specs.Machine.{Fed, carry, choice_at, go, initial, left_at, starts_node, stop, taken_at, turn, with_item}
unfoldable pub use Rattle.yaml_parse_grammar.specs.Machine.{feed, run}
pub use Rattle.yaml_parse_grammar.specs.Resolve.{Directives, Settled, gave, no_directives, noted, placed, refused, settle}
pub use Rattle.yaml_parse_grammar.specs.States.{State}
pub use Rattle.yaml_parse_grammar.specs.Trees.{event_at}
pub use Rattle.yaml_parse_grammar.specs.declared.Choice.{Choice}
pub use Rattle.yaml_parse_grammar.specs.declared.Choice.TheVariants.{Leave, Open, Refuse, Take}
pub use Rattle.yaml_parse_grammar.specs.declared.ParseProblem.{ParseProblem}
pub use Rattle.yaml_parse_grammar.specs.declared.Site.TheVariants.{Root}
pub use Rattle.yaml_parse_grammar.specs.declared.Wants.TheVariants.{Block}
pub use Rattle.yaml_parse_grammar.specs.parse_model.Events.{Event}
pub use Rattle.yaml_parse_grammar.specs.scan_types.Faults.{Fault}
pub use Rattle.yaml_parse_grammar.specs.scan_types.Tokens.{Token, TokenBody, type_of}
pub use Rattle.yaml_parse_grammar.specs.parse_model.declared.yaml_encoding_t.{yaml_encoding_t}
pub use Rattle.yaml_parse_grammar.specs.parse_model.declared.yaml_mark_t.{yaml_mark_t}
pub use Rattle.yaml_parse_laws_trees.specs.WindowsLaws.{GoOn, events_in, parse_of}
