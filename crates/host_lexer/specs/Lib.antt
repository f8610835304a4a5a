pub mod Characters
pub mod Numerals
pub mod Spellings
pub mod Steps
pub mod Texts
pub mod Tokens
