pub mod Columns
pub mod Steps
pub mod Lasting
pub mod First
