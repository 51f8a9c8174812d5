pub mod Accepted
pub mod Alone
pub mod Corrected
pub mod Figures
pub mod Lasting
pub mod Reason
pub mod Seven
