pub mod Packing
pub mod Settled
pub mod Tied
