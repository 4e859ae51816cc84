pub mod AnswerLaws
pub mod BytesLaws
pub mod StoreLaws
pub mod FieldLaws
pub mod StatedLaws
