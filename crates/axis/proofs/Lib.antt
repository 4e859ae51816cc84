pub mod TestLaws
pub mod ConfigLaws
pub mod RowLaws
pub mod StatedLaws
