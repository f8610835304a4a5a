pub mod Configurations
pub mod Calls
pub mod Rules
pub mod Outcomes
pub mod Worlds
pub mod Answering
