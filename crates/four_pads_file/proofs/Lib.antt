pub mod General
pub mod Program
