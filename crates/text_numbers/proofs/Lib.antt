pub mod Decimal
pub mod Indices
