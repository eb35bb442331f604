pub mod On
pub mod Classes
pub mod Runs
pub mod Calm
