pub mod Marks
pub mod Classes
pub mod Tokens
pub mod Faults
pub mod Ascii
pub mod Points
pub mod Indents
pub mod Widths
