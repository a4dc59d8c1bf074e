pub mod Arrays
pub mod Firsts
pub mod Tables
pub mod Refusing
pub mod Equality
pub mod Steps
pub mod Sounds
pub mod Pairs
