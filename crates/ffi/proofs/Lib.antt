pub mod Parts
pub mod WrongExports
pub mod WrongProfiles
