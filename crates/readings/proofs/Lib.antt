pub mod Bounds
pub mod Adding
pub mod Numbers
pub mod Looping
pub mod Rows
pub mod Halves
pub mod Parts
pub mod Outcomes
