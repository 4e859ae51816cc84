pub mod PassLaws
pub mod RefusalLaws
pub mod OutcomeLaws
pub mod StatedLaws
