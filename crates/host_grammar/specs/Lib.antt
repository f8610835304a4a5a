pub mod Conditions
pub mod Counting
pub mod Derivations
pub mod Machine
pub mod Printing
pub mod Refusals
pub mod Scopes
pub mod Spelling
