pub mod Rows
pub mod Same
pub mod Blocks
pub mod One
