pub mod Tags
pub mod Opening
pub mod TableRecord
pub mod Survey
pub mod Order
