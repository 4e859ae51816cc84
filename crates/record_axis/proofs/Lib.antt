pub mod LimitsLaws
pub mod AxisLaws
pub mod StatedLaws
