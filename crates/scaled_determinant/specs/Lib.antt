pub mod Scaled
pub mod Determinant
pub mod Range
pub mod Inner
