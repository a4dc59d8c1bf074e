pub mod Small
pub mod Computed
pub mod Table
pub mod Multiplied
pub mod Columns
pub mod Registers
pub mod Weights
pub mod Computing
