pub mod Heads
pub mod Records
pub mod Bringing
pub mod Concluding
pub mod Settled
