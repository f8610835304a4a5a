pub mod Keeping
pub mod Weights
pub mod Repeating
pub mod Frames
pub mod Steps
pub mod Calling
