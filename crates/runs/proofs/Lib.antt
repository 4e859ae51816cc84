pub mod CallLaws
pub mod RunIs
pub mod AnsweringLaws
pub mod RefusingLaws
