pub mod Permuting
