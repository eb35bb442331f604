pub mod Adapter
pub mod AdapterView
pub mod Coming
pub mod Input
pub mod ScannedValue
pub mod ScannedView
pub mod TextView
pub mod EventLine
pub mod Escapes
pub mod Reading
pub mod ReadingView
pub mod ReadingInside
pub mod Answers
-- the crates below it, for crates that name this one alone
pub use Rattle.yaml_round_content.specs as round_content
