pub mod RowsLaws
pub mod LocatedLaws
pub mod StatedLaws
