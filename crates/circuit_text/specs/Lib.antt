pub mod Forms
pub mod Texts
pub mod Lines
pub mod Columns
