pub mod Changes
pub mod Live
pub mod Waiting
