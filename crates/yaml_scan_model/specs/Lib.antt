pub mod Problems
pub mod Breaks
pub mod Runs
pub mod Wrong
pub mod Coming
pub mod Kinds
pub mod Texts
pub mod Shows
pub mod Utf8
-- the crates below it, for crates that name this one alone
pub use Rattle.yaml_scan_types.specs as scan_types
