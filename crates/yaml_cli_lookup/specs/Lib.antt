pub mod Input
pub mod Values
pub mod Lookup
pub mod Errors
