pub mod Explaining
pub mod Placed
