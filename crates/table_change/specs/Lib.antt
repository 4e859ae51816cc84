pub mod Making
pub mod Order
