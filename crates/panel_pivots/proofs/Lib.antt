pub mod Measured
pub mod Outermost
pub mod Reading
