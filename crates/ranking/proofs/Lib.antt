pub mod Inserting
pub mod Listing
pub mod Calls
pub mod Order
pub mod Ranked
pub mod Idle
pub mod Figures
