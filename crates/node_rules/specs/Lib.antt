pub mod Rules
pub mod Combinations
pub mod Settling
