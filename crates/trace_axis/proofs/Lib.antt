pub mod TraceLaws
pub mod StatedLaws
pub mod OutcomeLaws
