pub mod Answers
pub mod Refusals
pub mod Kinds
pub mod Values
