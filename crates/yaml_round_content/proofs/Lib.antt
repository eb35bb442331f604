pub mod AdaptedLemmas
mod Words
pub mod Stacks
pub mod Places
pub mod Spellings
pub mod Runs
pub mod Emitted
pub mod Directed
pub mod Settling
pub mod Whole
pub mod StreamsInputs
pub mod Injective
pub mod Trees
pub mod ContentInputs
pub mod Bare
pub mod Layouts
pub mod Saying
mod Documents
pub mod OfText
pub mod Joining
mod Rows
pub mod Told
mod Placing
mod Placed
mod Numbered
mod ByContent
pub mod Loaded
pub mod Tokens
pub mod Scalars
pub mod Flags
mod Decoded
pub mod Utf8
pub mod Events
pub mod WritableContents
pub mod Core
pub mod DumpsContents
pub mod Names
pub mod Walks
pub mod DumpsSaying
pub mod Loading
pub mod DumpsTrees
pub mod Agreeing
mod EncodingsTokens
mod EncodingsEvents
mod EncodingsJoining
mod EncodingsSpelled
mod EncodingsTexts
mod ReadBackWords
pub mod ReadBackSaying
pub mod Premises
pub mod ReadBackJoining
pub mod ReadBack
mod Fronts
pub mod Sound
pub mod Written
pub mod Laid
pub mod ReadBackWhole
pub mod Encoding
pub mod Characters
pub mod ReadBackLayouts
pub mod Leaves
pub mod Nodes
pub mod Marks
pub mod CanonicalJoining
pub mod CanonicalPremises
pub mod Growing
pub mod ReadBackDocuments
pub mod Passing
mod ReadBackInjective
mod PrettyWords
mod PrettyNodes
pub mod PrettyDocuments
pub mod PrettyPassing
pub mod Contents
mod PrettySaying
mod InputTexts
pub mod PrettyJoining
pub mod Theorem
pub mod JsonInputs
mod PrettyLayouts
mod PrettyMarks
pub mod Bytes
mod ReadablePremises
mod ReadableSaying
mod ReadableStarting
pub mod ReadableJoining
pub mod Restyling
-- the crates below it, for crates that name this one alone
pub use Rattle.yaml_emit_laws.proofs.Throughout
pub use Rattle.yaml_emit_laws.proofs.Passing as LawsPassing
pub use Rattle.yaml_emit_laws.proofs.Contents as LawsContents
pub use Rattle.yaml_emit_laws.proofs.Loading as LawsLoading
