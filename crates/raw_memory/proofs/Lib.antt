pub mod Blocks
pub mod Numbers
pub mod Reading
pub mod Steps
pub mod Words
