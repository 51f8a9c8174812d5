pub mod Blas
pub mod Dot
