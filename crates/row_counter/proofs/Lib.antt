pub mod ReadingLaws
pub mod CounterLaws
pub mod StatedLaws
