pub use Rattle.yaml_emit_machine.proofs.Seeing
mod Told
mod Setting
pub use Rattle.yaml_emit_machine.proofs.Opened
pub use Rattle.yaml_emit_machine.proofs.Blaming
pub use Rattle.yaml_emit_machine.proofs.Emitting
pub use Rattle.yaml_emit_machine.proofs.Finishing
