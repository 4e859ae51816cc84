pub mod DecimalLaws
pub mod TextLaws
pub mod OutcomeLaws
pub mod StatedLaws
