pub mod Calls
pub mod Reason
