pub mod Moves
mod Words
pub mod Exits
pub mod Several
