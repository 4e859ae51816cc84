pub mod Bytes
pub mod Store
pub mod Field
