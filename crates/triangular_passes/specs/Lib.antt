pub mod Triangular
