pub mod Registers
pub mod Calls
pub mod Refusals
pub mod Faults
pub mod Runs
pub mod Laws
