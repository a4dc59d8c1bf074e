pub mod Recording
pub mod Widths
pub mod Equality
