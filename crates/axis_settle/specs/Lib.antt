pub mod Lines
pub mod Settle
pub mod After
