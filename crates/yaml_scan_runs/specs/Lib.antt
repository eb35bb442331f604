pub mod Runs
pub mod Placed
