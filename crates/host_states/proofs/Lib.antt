pub mod Leads
pub mod Simulates
