pub mod Marks
pub mod Handles
pub mod Places
pub mod Stores
pub mod Keeping
