pub mod Diagonal
pub mod Formed
pub mod Lasting
pub mod Own
pub mod Recorded
pub mod Step
pub mod Tossing
pub mod Widen
