pub mod Circuits
pub mod Syntaxes
pub mod Verdicts
