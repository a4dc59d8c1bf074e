pub mod Values
pub mod Halves
pub mod NamedRules
pub mod Sets
pub mod Growth
pub mod Handles
pub mod Asked
pub mod Constants
