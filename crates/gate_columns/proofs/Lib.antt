pub mod Naming
pub mod Carries
pub mod Operands
pub mod Terms
pub mod NewColumns
