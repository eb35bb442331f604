pub mod Content
pub mod Grammar
pub mod Progress
pub mod Nodes
pub mod Streams
pub mod State
pub mod ToCome
pub mod Settings
pub mod Text
pub mod Layout
pub mod Appends
pub mod Sink
pub mod LineStarts
pub mod Hex
pub mod Laws
pub mod Quoted
pub mod Style
pub mod Tame
pub mod Scalars
pub mod Runs
pub mod Spelling
pub mod Tags
-- the crates below it, for crates of laws that name this one alone
pub use Rattle.yaml_scan_model.specs as scan_model
pub use Rattle.yaml_parse_model.specs as parse_model
pub use Rattle.yaml_scan_types.specs as scan_types
