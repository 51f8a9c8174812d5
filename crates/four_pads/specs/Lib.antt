pub mod Profile
pub mod Inner
