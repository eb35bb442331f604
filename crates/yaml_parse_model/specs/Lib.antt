pub mod Constructors
pub mod Events
pub mod Nodes
pub mod NodeTexts
pub mod Prefix
pub mod Source
pub mod TextView
pub mod Documents
pub mod Parts
pub mod Sizes
pub mod Views
pub use Rattle.yaml_scan_model.specs.scan_types.Ascii
pub use Rattle.yaml_scan_model.specs.scan_types.Tokens
pub use Rattle.yaml_scan_model.specs.scan_types.Faults
-- the crates below it, for crates that name this one alone
pub use Rattle.yaml_scan_model.specs.scan_types
pub use Rattle.yaml_scan_model.specs as scan_model
