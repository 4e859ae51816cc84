pub mod Told
pub mod Op
pub mod Event
pub mod Run
pub mod Answering
pub mod Refusing
