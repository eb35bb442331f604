pub mod Stands
pub mod Spelling
pub mod ReadBack
pub mod QuotedLaws
pub mod Canonical
pub mod Bodies
pub mod CanonicalLaws
pub mod TagsLaws
pub mod Walk
pub mod Writable
pub mod TextLaws
pub mod Json
pub mod PrettyBodies
pub mod Printing
pub mod Depths
pub mod Forgetting
pub mod ColumnsLaws
pub mod ColumnsRows
pub mod Sizes
pub mod PlainLaws
pub mod SingleLaws
pub mod Stops
pub mod KeysLaws
pub mod StylesLaws
pub mod StandsLaws
pub mod BlockLines
pub mod BlockLaws
pub mod BlockLexemes
pub mod BlockPassing
pub mod NodeBodies
pub mod NodeWalk
pub mod KeyLaws
pub mod Nodes
pub mod Spoken
pub mod Flows
pub mod DocLaws
pub mod StreamsLaws
pub mod Dumps
pub mod DumpsLaws
pub mod LookBack
-- the crates below it, for crates that name this one alone
pub use Rattle.yaml_emit_layout.specs as emit_layout
pub use Rattle.yaml_parse_grammar.specs as parse_grammar
pub use Rattle.yaml_parse_laws_trees.specs as parse_laws_trees
pub use Rattle.yaml_emit_graph.specs as emit_graph
pub use Rattle.yaml_emit_layout.specs.scan_types
pub use Rattle.yaml_emit_layout.specs.scan_model
pub use Rattle.yaml_scan_history.specs as scan_history
pub use Rattle.yaml_scan_history.specs.scan_decode
