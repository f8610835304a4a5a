pub mod Whole
pub mod Stacks
