pub mod Storing
pub mod Values
