pub mod Laws
pub mod Shrinking
pub mod Whole
pub mod Storing
