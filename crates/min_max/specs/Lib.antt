pub mod Pivot
pub mod TossUp
