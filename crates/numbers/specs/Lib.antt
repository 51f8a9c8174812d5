pub mod Numbers
pub mod Column
pub mod Each
pub mod First
