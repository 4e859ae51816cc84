pub mod CallLaws
pub mod WordLaws
pub mod SaveLaws
pub mod OrderLaws
pub mod OutcomeLaws
pub mod StatedLaws
