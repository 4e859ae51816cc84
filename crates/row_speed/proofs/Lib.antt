pub mod SpeedLaws
pub mod StatedLaws
