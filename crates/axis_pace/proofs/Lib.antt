pub mod PaceLaws
pub mod StatedLaws
