mod Ends
pub mod Sizing
pub mod Sound
