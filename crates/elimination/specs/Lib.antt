pub mod Elimination
pub mod Adding
pub mod Own
pub mod Removing
pub mod TossUps
pub mod Reason
