pub mod Fold
pub mod Places
pub mod Tests
