pub mod Fold
pub mod Objects
pub mod Waits
pub mod Attempt
pub mod Walk
pub mod Validity
pub mod Snapshot
pub mod Calls
