pub mod RoomLaws
pub mod AnswerLaws
pub mod MaskLaws
pub mod PortLaws
pub mod OutcomeLaws
pub mod StatedLaws
