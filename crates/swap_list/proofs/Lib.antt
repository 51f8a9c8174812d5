pub mod SwapList
pub mod Appending
