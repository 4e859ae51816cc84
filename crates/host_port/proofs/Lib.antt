pub mod PortLaws
pub mod StatedLaws
