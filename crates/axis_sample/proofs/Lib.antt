pub mod StepLaws
pub mod KeepLaws
pub mod StatedLaws
