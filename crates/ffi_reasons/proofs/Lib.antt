pub mod WrongExports
