pub mod Outermost
pub mod Pivots
