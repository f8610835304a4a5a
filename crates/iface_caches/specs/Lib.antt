pub mod Caches
pub mod Agreement
pub mod Conversions
pub mod Whole
pub mod Laws
pub mod ValueOrder
pub mod KeyOrder
