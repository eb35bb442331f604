mod Words
pub mod MarksForward
pub mod QuotedForward
pub mod PlainForward
pub mod BlockForward
pub mod WordForward
pub mod NextForward
pub mod HistoryForward
pub mod HeldForward
pub mod RemainingForward
pub mod StreamForward
mod TextWords
pub mod FreeLemmas
pub mod StepLemmas
pub mod TextLemmas
pub mod NamesWords
mod Throughout
pub mod TokensSpelled
pub mod Inputs
pub mod Whole
pub mod Quoted
pub mod Plain
pub mod Block
pub mod Utf8Words
pub mod Lexemes
pub mod TokensUtf8
pub mod Characters
pub mod Decoded
pub mod Lines
pub mod Directives
mod LevelWords
pub mod Pushing
pub mod Keying
pub mod Ending
pub mod Whites
pub mod Slotting
pub mod Stepping
pub mod Walking
pub mod TextsInRow
pub mod Signing
pub mod LookingBack
mod Shared
mod Bytes
mod Gaps
mod Plains
mod Quotes
mod Names
mod CutsDirectives
mod Blocks
pub mod CutsWords
mod Cutting
mod Histories
pub mod Coming
pub mod BehindBreak
mod Fronts
mod Turning
mod Rests
pub mod Depths
mod CutsJoining
pub mod Windows
mod Failing
pub mod Refused
pub mod CutsEnding
pub mod Behind
pub mod Leading
pub mod Opening
-- the crates below it, for crates that name this one alone
pub use Rattle.yaml_scan_history.proofs.MarksLemmas
pub use Rattle.yaml_scan_history.proofs.SpellingLemmas
pub use Rattle.yaml_scan_history.proofs.CompleteLemmas
