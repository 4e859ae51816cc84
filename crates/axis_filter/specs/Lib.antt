pub mod Lines
pub mod Filter
