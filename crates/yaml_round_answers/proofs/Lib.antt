mod Gaps
pub mod Checked
pub mod Characters
pub mod Building
pub mod Leading
pub mod Giving
pub mod Stands
pub mod GoingOn
pub mod Placing
pub mod Directing
pub mod Recording
pub mod Saying
pub mod EventOffsets
pub mod NumberRows
pub mod Places
pub mod TokensAdding
pub mod TokenOffsets
pub mod TokensRows
mod Refusing
mod Telling
mod Handing
mod ScanTelling
pub mod Exact
pub mod NormalExact
pub mod Offsets
pub mod PartingExact
pub mod EmittedPieces
pub mod Dumping
pub mod Loading
pub mod Showing
pub mod Same
pub mod Composes
pub mod Sketches
