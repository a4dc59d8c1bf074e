pub mod Spelled
pub mod Faithful
pub mod Phrases
pub mod Circuit
pub mod Faults
pub mod Meets
pub mod Looser
pub mod Verdict
