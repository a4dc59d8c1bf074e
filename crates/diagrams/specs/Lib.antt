pub mod Diagrams
pub mod Parts
pub mod Meanings
pub mod Forming
pub mod Reaching
pub mod Laws
