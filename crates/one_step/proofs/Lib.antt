pub mod Shape
pub mod Within
pub mod Lasting
