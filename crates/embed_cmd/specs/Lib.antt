pub mod Words
pub mod Sorting
pub mod Transcript
pub mod Headline
pub mod AskedFiles
pub mod Reading
