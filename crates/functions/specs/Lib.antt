pub mod Tables
pub mod Sets
pub mod Meanings
pub mod Faults
pub mod Growth
pub mod Answers
pub mod Laws
