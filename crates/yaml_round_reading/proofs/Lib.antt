pub mod AdapterLemmas
mod Asking
mod Spelling
mod Telling
mod EscapesLemmas
pub mod Plain
mod Real
