pub mod Runs
pub mod Spots
pub mod Standing
