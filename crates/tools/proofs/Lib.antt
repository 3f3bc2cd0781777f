pub mod Naming
pub mod Answering
pub mod Starts
pub mod Program
pub mod Turns
pub mod Settled
