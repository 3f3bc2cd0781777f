pub mod Telling
pub mod Timing
pub mod Acting
pub mod Settled
