pub mod Doubles
pub mod Rows
pub mod Telling
pub mod Counts
pub mod Handing
