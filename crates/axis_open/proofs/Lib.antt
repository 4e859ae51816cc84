pub mod OpenLaws
pub mod StatedLaws
