pub mod MarksLemmas
pub mod BreaksLemmas
pub mod RunsLemmas
pub mod PrintedLemmas
