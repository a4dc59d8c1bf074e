pub mod Recalling
pub mod Remembering
