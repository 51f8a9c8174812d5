pub mod Outcomes
pub mod Cases
pub mod Strength
pub mod Tests
