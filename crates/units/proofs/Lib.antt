pub mod Half
pub mod Signs
pub mod Units
pub mod Rounded
pub mod Bound
pub mod Edge
