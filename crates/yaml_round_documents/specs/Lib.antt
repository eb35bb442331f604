pub mod Same
pub mod Shapes
pub mod ShapeView
pub mod Ranks
pub mod Telling
pub mod Texts
pub mod Matching
pub mod Pairs
pub mod Differences
pub mod Equal
pub mod Steps
pub mod Streams
-- the crates below it, for crates that name this one alone
pub use Rattle.yaml_parse_model.specs as parse_model
pub use Rattle.yaml_emit_graph.specs as emit_graph
