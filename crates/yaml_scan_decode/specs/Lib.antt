pub mod DecodedText
pub mod Encodings
pub mod Offences
pub mod Characters
pub mod Steps
pub mod Decoding
pub mod Spelling
pub mod Rules

-- the definitions of characters, passed on
