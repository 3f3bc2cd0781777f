pub mod Writes
pub mod Fits
pub mod Settled
