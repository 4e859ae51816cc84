pub mod RoundingLaws
pub mod SpeedLaws
pub mod SumLaws
pub mod StatedLaws
