pub mod Recipes
pub mod Plans
pub mod Laws
pub mod Examples
