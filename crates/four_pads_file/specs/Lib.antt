pub mod FileProfile
