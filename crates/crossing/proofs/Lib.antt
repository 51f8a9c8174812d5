pub mod Below
pub mod Factors
pub mod Loads
pub mod Answered
