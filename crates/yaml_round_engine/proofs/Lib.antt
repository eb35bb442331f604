pub mod Starting
mod Breaks
pub mod Pathing
mod Placing
mod Fronts
mod Stepping
mod Parting
mod Comparing
mod Mapped
mod Dumping
mod Telling
pub mod Inputs
mod Giving
mod Judging
mod NormalDocuments
pub mod Laying
pub mod Normal
pub mod Forms
pub mod Staying
pub mod Readably
pub mod Reloading
mod Streams
mod Knowing
mod Checking
-- the crates below it, for crates that name this one alone
pub use Rattle.yaml_round_reading.proofs.Plain
pub use Rattle.yaml_round_content.proofs.ReadBackWhole
pub use Rattle.yaml_round_content.proofs.Loaded
pub use Rattle.yaml_round_content.proofs.Flags
pub use Rattle.yaml_round_content.proofs.Joining
pub use Rattle.yaml_round_content.proofs.JsonInputs
pub use Rattle.yaml_round_content.proofs.Laid
pub use Rattle.yaml_round_content.proofs.Layouts
pub use Rattle.yaml_round_content.proofs.ReadBack
pub use Rattle.yaml_round_content.proofs.Theorem
pub use Rattle.yaml_round_content.proofs.Walks
