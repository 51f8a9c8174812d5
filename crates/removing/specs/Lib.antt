pub mod Removing
pub mod Inner
