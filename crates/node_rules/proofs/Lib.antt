pub mod AllRules
pub mod Comparing
pub mod Replacing
pub mod Simplifying
