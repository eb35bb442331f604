pub mod Spelling
pub mod KnownLemmas
pub mod PlacedLemmas
pub mod RestingLemmas
pub mod BeginLemmas
pub mod ReadingLemmas
-- its helpers, for crates of laws that name the member alone
pub use Rattle.yaml_scan_decode.proofs.CompleteLemmas
pub use Rattle.yaml_scan_decode.proofs.DecodeLemmas
