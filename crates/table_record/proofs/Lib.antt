pub mod AnyRowLaws
pub mod RowsLaws
pub mod SizeLaws
pub mod SavingLaws
pub mod RestoringLaws
pub mod OutcomeLaws
pub mod StatedLaws
