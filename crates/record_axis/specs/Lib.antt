pub mod Tags
pub mod Limits
pub mod AxisFields
