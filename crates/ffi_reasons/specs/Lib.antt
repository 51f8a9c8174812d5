pub mod Why
