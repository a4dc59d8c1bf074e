pub mod Bits
pub mod Words
mod Counting
mod Gathering
mod Settings
mod Packed
pub mod Made
