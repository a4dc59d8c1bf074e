pub mod Generations
pub mod Answers
pub mod Counts
