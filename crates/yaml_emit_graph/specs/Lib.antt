pub mod Graph
pub mod Onward
pub mod Walk
pub mod Numbers
pub mod Events
-- the crates below it, for crates that name this one alone
pub use Rattle.yaml_emit_layout.specs as emit_layout
pub use Rattle.yaml_scan_model.specs as scan_model
pub use Rattle.yaml_scan_model.specs.scan_types
