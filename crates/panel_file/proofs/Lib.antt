pub mod Bits
pub mod Numbers
pub mod Reading
pub mod Files
pub mod Longer
