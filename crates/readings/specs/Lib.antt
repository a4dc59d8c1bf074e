pub mod Bounds
pub mod Sums
pub mod Columns
pub mod Amplitudes
pub mod Products
pub mod Weights
