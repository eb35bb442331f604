pub mod StdDevices
pub mod Settings
pub mod Counts
pub mod Run
pub mod FaultLine
-- the crates below it, for crates that name this one alone
pub use Rattle.yaml_scan_types.specs as scan_types
