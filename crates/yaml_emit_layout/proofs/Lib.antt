pub mod LeadsOn
pub mod Rows
pub mod Encodes
pub mod Lines
pub mod Sinks
pub mod Bools
pub mod Escapes
pub mod Spelled
-- the crates below it, for crates that name this one alone
pub use Rattle.yaml_scan_model.proofs.MarksLemmas
pub use Rattle.yaml_scan_model.proofs.RunsLemmas
