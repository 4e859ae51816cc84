pub mod AnswerLaws
pub mod ShownLaws
pub mod StatedLaws
