pub mod Change
pub mod Answer
pub mod Calls
pub mod Reasons
