pub mod Counts
pub mod Digits
pub mod LawLemmas
pub mod Readings
pub mod Shifts
pub mod Signed
pub mod Traps
