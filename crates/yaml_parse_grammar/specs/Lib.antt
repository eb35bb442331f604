pub mod Problems
pub mod Items
pub mod Trees
pub mod TreeEvents
pub mod TreeSteps
pub mod States
pub mod Machine
pub mod Resolve
pub mod Remaining
pub mod Texts
pub mod Stacks
-- the crates below it, for crates of laws that name this one alone
pub use Rattle.yaml_parse_model.specs as parse_model
pub use Rattle.yaml_parse_model.specs.scan_types
