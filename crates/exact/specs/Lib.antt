pub mod Indices
pub mod Quadruples
pub mod States
pub mod Squares
pub mod Shares
pub mod Texts
pub mod Laws
