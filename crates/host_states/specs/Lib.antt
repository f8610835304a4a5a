pub mod Moves
pub mod Refused
pub mod Shapes
pub mod Stacks
