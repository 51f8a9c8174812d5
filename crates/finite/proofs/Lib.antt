pub mod Finite
pub mod Lasting
pub mod Product
