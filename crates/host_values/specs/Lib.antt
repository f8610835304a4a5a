pub mod ErrorNames
pub mod SameKeys
pub mod KeyOrder
pub mod Objects
pub mod Heaps
pub mod Members
pub mod Shown
pub mod Laws
