pub mod Places
pub mod Lanes
pub mod Stops
pub mod Counts
