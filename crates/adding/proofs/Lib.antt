pub mod Adds
pub mod Afresh
pub mod Front
pub mod Seven
pub mod Slot
pub mod Tossed
pub mod Unread
