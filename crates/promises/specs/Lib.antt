pub mod Readings
pub mod Own
pub mod Agreement
pub mod Edge
pub mod Day
pub mod Occupied
