mod Handed
mod Begins
mod Gives
mod Loading
pub mod Sentences
-- what loads come to, and what a parser begins with, for crates that name the member alone
pub use Rattle.yaml_parse_laws_trees.proofs.AllGiven
pub use Rattle.yaml_parse_laws_trees.proofs.ByStep
pub use Rattle.yaml_parse_laws_trees.proofs.NextLoads
