pub mod SampleLaws
pub mod StatedLaws
