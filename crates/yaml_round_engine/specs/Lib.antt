pub mod Beginning
pub mod Styles
pub mod Places
pub mod Causes
pub mod Differences
pub mod Walking
pub mod Compare
pub mod Loaded
pub mod Dumps
pub mod Layers
pub mod Lines
pub mod Writing
pub mod Answers
pub mod Readable
pub mod Reload
pub mod Knowing
pub mod Checking
-- the crates below it, for crates that name this one alone
pub use Rattle.yaml_round_content.specs as round_content
pub use Rattle.yaml_round_reading.specs as round_reading
pub use Rattle.yaml_emit_layout.specs as emit_layout
pub use Rattle.yaml_parse_model.specs as parse_model
pub use Rattle.yaml_parse.specs.parse_grammar
pub use Rattle.yaml_emit.specs as emit
