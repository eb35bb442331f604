pub mod AnswerLemmas
pub mod DecodeLemmas
pub mod SpellingLemmas
pub mod CompleteLemmas
pub mod CommonLemmas
mod Rules

-- the lemmas of characters, passed on
