pub mod Permute
pub mod OnColumns
pub mod Finite
