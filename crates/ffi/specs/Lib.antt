pub mod Exports
pub mod Profiles
