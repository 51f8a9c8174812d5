pub mod Dead
pub mod Reach
pub mod Restored
