pub mod Bytes
pub mod Cases
pub mod Ownership
pub mod Lending
