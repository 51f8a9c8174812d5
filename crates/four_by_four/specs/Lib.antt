pub mod System
pub mod Inner
