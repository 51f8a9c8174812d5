pub mod OnePass
pub mod Pivot
pub mod Tied
pub mod TossUp
pub mod Walk
