pub mod Objects
pub mod Records
pub mod Settled
