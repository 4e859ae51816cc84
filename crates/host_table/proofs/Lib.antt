pub mod SaveLaws
pub mod CallLaws
