pub mod Telling
pub mod Season
