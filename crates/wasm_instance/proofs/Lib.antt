pub mod Rules
pub mod Limits
pub mod Adding
pub mod Whole
pub mod Writing
pub mod Callable
pub mod Finished
