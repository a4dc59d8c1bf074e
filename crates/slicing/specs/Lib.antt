pub mod TwosComplement
pub mod Components
pub mod Columns
pub mod Operations
pub mod Divisions
pub mod Trimming
pub mod Products
pub mod Laws
