pub mod Values
pub mod Work
