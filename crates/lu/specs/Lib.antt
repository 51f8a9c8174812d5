pub mod Factoring
pub mod PlainStep
pub mod Inner
