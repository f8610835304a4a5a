pub mod Predefined
pub mod Replies
pub mod Calls
pub mod Laws
