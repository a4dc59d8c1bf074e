pub mod Layout
pub mod Chains
pub mod Ordering
pub mod Adding
pub mod Freeing
pub mod Marking
