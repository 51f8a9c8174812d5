pub mod Ordering
pub mod Moving
