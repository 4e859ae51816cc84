pub mod IndexLaws
pub mod StatedLaws
