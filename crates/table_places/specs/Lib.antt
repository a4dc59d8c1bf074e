pub mod Handles
pub mod Order
