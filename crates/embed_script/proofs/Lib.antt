pub mod Sizes
pub mod Values
pub mod Chains
pub mod Steps
pub mod Lines
pub mod Bound
pub mod Serving
pub mod Made
pub mod Runs
pub mod Loads
pub mod Loaded
pub mod Arguments
pub mod Effects
mod Cases
