pub mod Found
pub mod Keeps
pub mod Loads
pub mod Sizing
pub mod Steps
pub mod Visited
