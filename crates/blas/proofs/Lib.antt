pub mod Exchange
pub mod Rows
pub mod Sum
