mod BreaksLemmas
pub mod ClassesLemmas
