pub mod Gates
pub mod Registers
pub mod Products
pub mod Laws
pub mod Examples
