pub mod ByRows
pub mod Places
pub mod Left
pub mod Within
