pub mod Check
pub mod DecodeLaws
pub mod TableLaws
pub mod StatedLaws
