pub mod Gathering
pub mod Flows
pub mod Feeding
pub mod Filling
pub mod Turns
pub mod Pieces
pub mod Settled
