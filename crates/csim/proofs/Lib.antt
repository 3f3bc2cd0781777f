pub mod Scans
pub mod ByKind
pub mod Shapes
pub mod Decimals
pub mod Telling
pub mod Characters
pub mod Exchange
pub mod Settled
