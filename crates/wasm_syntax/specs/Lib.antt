pub mod Blocks
pub mod ValueTypes
pub mod NumberTypes
pub mod Sorts
pub mod Numbering
