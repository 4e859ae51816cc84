pub mod Phase
pub mod Lasting
pub mod Lawful
pub mod Counter
pub mod Begun
pub mod Shaft
pub mod Reference
pub mod Seen
