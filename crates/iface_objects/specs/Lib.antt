pub mod Realms
pub mod Loading
pub mod Modules
pub mod Instances
pub mod Members
pub mod Sound
