pub mod Tags
pub mod Entry
