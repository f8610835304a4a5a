mod Cases
pub mod Closes
pub mod Complete
pub mod Fine
pub mod Grow
pub mod Known
pub mod Main
pub mod Once
pub mod Pieces
pub mod Sound
pub mod Steps
