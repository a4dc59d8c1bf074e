pub mod Asking
pub mod Dividing
pub mod Reducing
