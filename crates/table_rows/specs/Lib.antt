pub mod Table
pub mod Located
