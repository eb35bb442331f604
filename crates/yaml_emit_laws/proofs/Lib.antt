mod Shared
pub mod Chars
pub mod Values
pub mod Bytes
pub mod QuotedReading
pub mod Turns
pub mod Parts
pub mod Escapes
mod Kept
pub mod Back
pub mod Single
pub mod Keys
pub mod QuotedWhole
pub mod Growing
pub mod Resolving
pub mod Pieces
pub mod TagsReading
pub mod Joining
pub mod Ascii
pub mod TagsLines
pub mod Forms
pub mod Places
pub mod Steps
pub mod Words
pub mod Tags
pub mod TextLines
pub mod Directives
pub mod Nodes
pub mod Documents
pub mod TextWhole
pub mod Prettily
mod Printing
mod ColumnsCalm
pub mod ColumnsMarks
pub mod ColumnsDepths
pub mod ColumnsEvents
mod ColumnsRows
mod ColumnsForgetting
mod ColumnsValues
pub mod SizesCounting
pub mod SizesEscapes
pub mod SizesLemmas
pub mod SizesLaid
mod ScalarWords
pub mod Standing
pub mod PlainParts
pub mod Lines
pub mod Letters
pub mod Writing
mod Shown
pub mod SingleWritten
pub mod PlainStart
pub mod Stopping
pub mod Near
pub mod OneLine
pub mod NearKeys
pub mod Styles
pub mod BlockHeader
mod BlockLayouts
mod BlockWaiting
mod BlockValues
mod BlockReading
pub mod BlockWhole
pub mod BlockLexemes
mod NodeWords
pub mod Lining
pub mod KeySteps
pub mod SpokenWords
pub mod Following
pub mod KeyLeaves
pub mod SpokenLayouts
pub mod FlowSteps
pub mod FlowSigns
pub mod DocStarts
pub mod DocDirectives
pub mod LeafNodes
pub mod NodePairs
pub mod NodeBlocks
pub mod FlowItems
pub mod FlowBlocks
pub mod LeafProps
pub mod KeyForms
pub mod KeyKinds
pub mod Whole
mod DumpsWords
pub mod Passing
mod LookingBack
pub mod Naming
pub mod Contents
pub mod Loading
pub mod Apart
pub mod Again
pub mod DumpsBack
mod Finding
mod Marks
mod Pairing
pub mod Loaded
pub mod DumpsWhole
-- the crates below it, for crates that name this one alone
pub use Rattle.yaml_parse_grammar.proofs.Single as GrammarSingle
pub use Rattle.yaml_parse_laws_trees.proofs.Ending
pub use Rattle.yaml_parse_laws_trees.proofs.LoadingEnding
pub use Rattle.yaml_parse_laws_trees.proofs.Turns as LawsTreesTurns
pub use Rattle.yaml_parse_laws_trees.proofs.Unique
pub use Rattle.yaml_parse_grammar.proofs.Throughout
pub use Rattle.yaml_parse_grammar.proofs.CompleteStream
pub use Rattle.yaml_parse_laws_trees.proofs.Spelling
pub use Rattle.yaml_parse_laws_trees.proofs.AllGiven
pub use Rattle.yaml_parse_grammar.proofs.Rules
pub use Rattle.yaml_parse_laws_trees.proofs.ByStep
pub use Rattle.yaml_parse_laws_trees.proofs.NextLoads
pub use Rattle.yaml_parse_grammar.proofs.Utf8
pub use Rattle.yaml_emit_graph.proofs.Joining as GraphJoining
