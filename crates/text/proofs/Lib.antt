pub mod Digits
pub mod Bytes
pub mod Fills
pub mod Calls
pub mod Printing
pub mod Bounds
pub mod Settled
