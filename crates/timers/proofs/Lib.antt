pub mod ByTimes
pub mod Records
pub mod Writes
pub mod Seconds
pub mod Settled
