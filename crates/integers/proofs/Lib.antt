pub mod Balance
pub mod NumberLaws
pub mod Machine
