mod Failing
mod Counting
pub mod Telling
