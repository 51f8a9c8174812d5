pub mod Digits
pub mod FirstLine
pub mod Floats
pub mod Written
