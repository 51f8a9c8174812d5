pub mod Removes
pub mod Undone
pub mod Unread
