pub mod Tokens
pub mod Places
pub mod Faults
pub mod Reading
