pub mod Pastes
pub mod Stores
pub mod Copies
pub mod Settled
