pub mod Permits
pub mod Ends
pub mod Settled
