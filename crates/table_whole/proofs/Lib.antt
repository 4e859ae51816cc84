pub mod ShareLaws
pub mod RoundTrip
pub mod AnswerLaws
pub mod WholeLaws
pub mod OrderLaws
pub mod StatedLaws
