pub mod Simpler
pub mod Steps
pub mod Halving
pub mod Concluding
pub mod Keeping
pub mod Reading
pub mod Beginning
pub mod Holding
