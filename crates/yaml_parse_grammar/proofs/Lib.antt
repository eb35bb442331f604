mod Words
pub mod Rules
pub mod Throughout
pub mod Complete
pub mod CompleteStream
pub mod EventsToGive
pub mod Single
pub mod Utf8
pub mod Standing
