pub mod Unused
pub mod Checks
pub mod Settled
