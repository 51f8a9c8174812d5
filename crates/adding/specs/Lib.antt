pub mod Adding
pub mod Inner
