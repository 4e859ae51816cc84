pub mod SaveLaws
pub mod StatedLaws
