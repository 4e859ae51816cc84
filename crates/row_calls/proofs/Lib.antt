pub mod StatusLaws
pub mod InUseLaws
pub mod AnswerLaws
pub mod ChangeLaws
pub mod SetupLaws
pub mod ReasonLaws
pub mod WordLaws
pub mod StatedLaws
