mod Running
mod Diffing
mod KeysTold
mod Differing
pub use Rattle.yaml_round_engine.proofs.Pathing
pub use Rattle.yaml_round_engine.proofs.Normal
pub use Rattle.yaml_round_engine.proofs.Plain
pub use Rattle.yaml_round_engine.proofs.Staying
pub use Rattle.yaml_round_engine.proofs.Theorem
pub use Rattle.yaml_round_engine.proofs.JsonInputs
-- the laws beneath, for crates of laws that name this one alone
pub use Rattle.yaml_round_engine.proofs.Layouts
pub use Rattle.yaml_round_engine.proofs.Laid
pub use Rattle.yaml_round_engine.proofs.ReadBack
pub use Rattle.yaml_round_engine.proofs.ReadBackWhole as Whole
pub use Rattle.yaml_round_engine.proofs.Flags
pub use Rattle.yaml_round_engine.proofs.Walks
pub use Rattle.yaml_round_engine.proofs.Joining
pub use Rattle.yaml_round_engine.proofs.Loaded
pub use Rattle.yaml_round_engine.proofs.Forms
