pub mod Store
pub mod Memories
pub mod Growth
pub mod Whole
pub mod View
pub mod Laws
pub mod Allocated
