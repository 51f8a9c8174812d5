pub mod Triangles
pub mod Solving
pub mod Determinant
pub mod Reason
