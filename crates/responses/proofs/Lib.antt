pub mod Writes
pub mod Statuses
pub mod Alike
pub mod Settled
