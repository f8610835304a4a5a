pub mod Builds
pub mod Closing
pub mod Leading
