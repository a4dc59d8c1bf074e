pub mod Opening
pub mod Applying
pub mod Comparing
