pub mod Tables
pub mod Stacks
pub mod Building
pub mod Images
pub mod Built
