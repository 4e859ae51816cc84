pub mod PassLaws
pub mod SoundLaws
pub mod StatedLaws
