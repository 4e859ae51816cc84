pub mod AnyRow
pub mod Rows
pub mod Saving
pub mod Restoring
