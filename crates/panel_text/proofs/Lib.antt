pub mod Writing
pub mod Whole
pub mod Lines
pub mod Printed
pub mod Longer
pub mod Sheet
pub mod Pieces
