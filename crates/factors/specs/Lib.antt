pub mod Factors
pub mod Held
