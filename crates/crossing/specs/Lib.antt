pub mod Below
pub mod Factors
