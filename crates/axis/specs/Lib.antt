pub mod Limit
pub mod Kind
pub mod Config
pub mod Flags
pub mod Row
