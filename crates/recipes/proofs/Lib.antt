pub mod TermValues
pub mod Settings
pub mod Agreement
pub mod Applied
pub mod Openings
pub mod Sufficient
pub mod Computing
