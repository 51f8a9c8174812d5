pub mod Held
pub mod Swaps
pub mod Unread
