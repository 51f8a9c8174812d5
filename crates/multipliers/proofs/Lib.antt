pub mod Below
pub mod Bounded
pub mod Growth
pub mod Factored
pub mod Added
pub mod Edge
