pub mod Walking
pub mod Contents
pub mod Counting
pub mod Naming
pub mod Leaving
pub mod Joining
pub mod Decimals
