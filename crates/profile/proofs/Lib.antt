pub mod Bits
pub mod Settled
