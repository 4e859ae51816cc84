pub mod WideningLaws
pub mod NearestLaws
pub mod ReckonedLaws
pub mod StatedLaws
