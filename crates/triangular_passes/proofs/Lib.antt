pub mod Turns
pub mod Lengths
pub mod InPlace
