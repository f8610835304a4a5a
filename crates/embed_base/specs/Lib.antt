pub mod Counts
pub mod Answers
pub mod Contents
pub mod Names
pub mod Memory
pub mod MemoryCalls
