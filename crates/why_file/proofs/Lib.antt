pub mod Filed
pub mod Near
