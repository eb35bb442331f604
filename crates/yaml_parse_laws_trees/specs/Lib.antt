pub mod CountsLaws
pub mod SoundLaws
pub mod LookBack
pub mod Wrong
pub mod Places
pub mod FaultsLaws
pub mod FaultsRows
pub mod Given
pub mod GivenLaws
pub mod GivenRows
pub mod Sentences
pub mod Aliases
pub mod Faults
pub mod AllLoads
pub mod Laws
pub mod Rows
pub mod NextLoad
pub mod Falling
pub mod Depths
pub mod WindowsLaws
-- the crates below it, for crates that name this one alone
pub use Rattle.yaml_parse_grammar.specs as parse_grammar
-- the crates below it, for crates of laws that name this one alone
pub use Rattle.yaml_parse_model.specs as parse_model
pub use Rattle.yaml_parse_loader.specs as parse_loader
