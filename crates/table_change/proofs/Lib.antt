pub mod MakingLaws
pub mod WordLaws
pub mod OrderLaws
pub mod OutcomeLaws
pub mod StatedLaws
