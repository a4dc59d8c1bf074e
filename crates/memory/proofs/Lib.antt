pub mod Rings
pub mod Remembering
