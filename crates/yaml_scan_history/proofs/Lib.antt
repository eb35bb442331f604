pub mod HistoryLemmas
pub mod StepwiseLemmas
mod Roles
pub mod Rules
mod Words
pub mod WordsRunsLemmas
pub mod BetweenLemmas
pub mod UrisLemmas
pub mod DirectivesLemmas
pub mod PlacesLemmas
pub mod HasLemmas
pub mod GapsRead
pub mod NamesRead
pub mod UrisRead
pub mod TagsRead
mod Unbounding
mod ScalarWords
pub mod FoldingLemmas
pub mod EscapeLemmas
pub mod QuotedLemmas
pub mod RunLemmas
pub mod PlainLemmas
mod UnboundingScalars
mod Digits
mod BlockWords
pub mod StackingLemmas
pub mod BlockLemmas
pub mod HeaderLemmas
pub mod DepthLemmas
pub mod ScalarLemmas
mod UnboundingBlocks
mod Indents
-- the crates below it, for crates of laws that name this one alone
pub use Rattle.yaml_scan_decode.proofs.CompleteLemmas
pub use Rattle.yaml_scan_decode.proofs.SpellingLemmas
pub use Rattle.yaml_scan_model.proofs.MarksLemmas
pub use Rattle.yaml_scan_model.proofs.RunsLemmas
pub use Rattle.yaml_scan_model.proofs as scan_model
