pub mod OrderLaws
pub mod RoundTrip
pub mod WriterLaws
pub mod AnswerLaws
pub mod RecordLaws
pub mod StatedLaws
