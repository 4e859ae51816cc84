pub mod Reading
pub mod Counter
