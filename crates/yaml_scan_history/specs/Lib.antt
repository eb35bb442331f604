pub mod Kinds
pub mod Roles
pub mod History
pub mod Words
pub mod Next
pub mod Stepwise
pub mod Remaining
pub mod Scanned
pub mod Laws
pub mod Rules
pub mod Runs
pub mod Between
pub mod Indicators
pub mod Anchors
pub mod Uris
pub mod Tags
pub mod Directives
pub mod Written
pub mod WordsLaws
pub mod Unbounded
pub mod Pieces
pub mod Quoted
pub mod Plain
pub mod UnboundedScalars
pub mod Value
pub mod Lines
pub mod Header
pub mod Block
pub mod UnboundedBlocks
-- the crates below it, for crates of laws that name this one alone
pub use Rattle.yaml_scan_model.specs as scan_model
pub use Rattle.yaml_scan_decode.specs as scan_decode
pub use Rattle.yaml_scan_model.specs.scan_types
