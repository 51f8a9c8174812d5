pub mod Results
pub mod Factoring
pub mod Solving
pub mod Why
pub mod Inner
