pub mod Reckoned
pub mod Widening
pub mod Nearest
