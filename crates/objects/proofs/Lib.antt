pub mod Reading
pub mod Walking
pub mod Writing
pub mod Alike
pub mod Settled
