pub mod Held
pub mod Judged
pub mod Laying
pub mod Emitter
pub mod Views
pub mod Within
pub mod Laid
pub mod Verdict
pub mod Taking
pub mod Dumping
pub mod Resuming
-- the crates below it, for crates that name this one alone
pub use Rattle.yaml_emit_core.specs as emit_core
pub use Rattle.yaml_emit_layout.specs as emit_layout
pub use Rattle.yaml_emit_graph.specs as emit_graph
pub use Rattle.yaml_scan_model.specs as scan_model
pub use Rattle.yaml_emit_layout.specs.parse_model
pub use Rattle.yaml_scan_model.specs.scan_types
