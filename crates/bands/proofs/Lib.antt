pub mod Banded
pub mod Least
