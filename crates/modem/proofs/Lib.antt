pub mod Obeying
pub mod Commanding
pub mod Settled
