pub use Rattle.yaml_scan_types.specs.Tokens
pub use Rattle.yaml_scan_types.specs.Faults
pub use Rattle.yaml_scan_types.specs.Classes
pub use Rattle.yaml_scan_types.specs.Marks
pub mod Session
pub mod Known
pub mod SessionView
pub mod Looking
pub use Rattle.yaml_scan_core.specs.Found
pub use Rattle.yaml_scan_core.specs.Settled
pub use Rattle.yaml_scan_history.specs.Scanned
pub use Rattle.yaml_scan_history.specs.Remaining
pub use Rattle.yaml_scan_decode.specs.Encodings
pub use Rattle.yaml_scan_decode.specs.Offences
pub use Rattle.yaml_scan_decode.specs.Characters
pub use Rattle.yaml_scan_decode.specs.Decoding
pub use Rattle.yaml_scan_decode.specs.Spelling
pub use Rattle.yaml_scan_decode.specs.DecodedText
-- its helpers, for crates of laws that name the member alone
pub use Rattle.yaml_scan_model.specs as scan_model
pub use Rattle.yaml_scan_decode.specs as scan_decode
pub use Rattle.yaml_scan_history.specs as scan_history
pub use Rattle.yaml_scan_types.specs as scan_types
