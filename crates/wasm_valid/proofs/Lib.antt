mod Cases
pub mod RunLaws
pub mod PileLaws
pub mod LocalLaws
pub mod LabelLaws
pub mod PlaceLaws
pub mod NumberLaws
pub mod NameLaws
pub mod ValidLaws
