pub mod EntryLaws
pub mod StatedLaws
