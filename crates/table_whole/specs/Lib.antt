pub mod Share
pub mod Answers
