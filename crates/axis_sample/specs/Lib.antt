pub mod Step
pub mod After
