pub mod ViewLaws
pub mod StatedLaws
