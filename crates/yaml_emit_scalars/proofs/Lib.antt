pub mod Spells
pub mod LaysLemmas
pub mod ClassLemmas
mod Leads
pub mod RunLemmas
pub mod RunWalks
mod Folds
mod Looks
mod Styles
mod Calm
pub mod Words
