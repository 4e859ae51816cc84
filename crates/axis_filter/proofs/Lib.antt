pub mod FilterLaws
pub mod StatedLaws
