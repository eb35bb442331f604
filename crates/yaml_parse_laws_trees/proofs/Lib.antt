mod Words
pub mod Counts
pub mod SoFar
pub mod Turns
mod CountsFirst
pub mod CountsUnique
pub mod Left
pub mod Sound
pub mod SoundStanding
pub mod Closing
pub mod Refusal
pub mod Events
pub mod Spelling
pub mod Cuts
pub mod FaultsUnique
pub mod FaultsStanding
mod Refusing
mod Keeping
pub mod Settling
pub mod Properties
pub mod Stepping
pub mod StacksBehind
pub mod Tagging
pub mod Clean
pub mod Taking
pub mod Ending
mod FaultsRows
mod Walking
mod Behind
mod Counting
pub mod Giving
mod GivenRows
mod Placing
pub mod Unique
mod Ends
mod ItemsLoaded
mod Fitting
mod LoadingTaking
mod StacksFit
pub mod LoadingEnding
mod Rows
pub mod Falling
pub mod ByStep
pub mod NextLoads
pub mod ByContent
pub mod LoadsCome
mod ToGive
pub mod AllGiven
mod Meant
mod Calm
mod Swapping
pub mod Ordered
mod WindowsWords
pub mod Grounding
pub mod Noting
pub mod Parting
mod WindowsClosing
pub mod Following
pub mod Beginning
pub mod WindowsRefusing
pub mod Staying
-- the crates below it, for crates that name this one alone
pub use Rattle.yaml_parse_grammar.proofs.Complete
pub use Rattle.yaml_parse_grammar.proofs.CompleteStream
pub use Rattle.yaml_parse_grammar.proofs.Rules
pub use Rattle.yaml_parse_grammar.proofs.Throughout
pub use Rattle.yaml_parse_grammar.proofs.Single
pub use Rattle.yaml_parse_grammar.proofs.Utf8
pub use Rattle.yaml_parse_grammar.proofs.EventsToGive
-- the laws beneath, for crates that name this one alone
pub use Rattle.yaml_parse_model.proofs.Sound as LoadingSound
pub use Rattle.yaml_parse_loader.proofs.Keeps
pub use Rattle.yaml_parse_loader.proofs.Loads
pub use Rattle.yaml_parse_loader.proofs.Visited
