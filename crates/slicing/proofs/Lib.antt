pub mod SignedNumbers
pub mod BitSums
pub mod Columns
pub mod Operations
pub mod Divisions
pub mod Trimming
pub mod PlaceSums
pub mod Products
