pub mod Answer
pub mod Tags
pub mod Opening
pub mod Record
pub mod Order
