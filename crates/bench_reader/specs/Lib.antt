pub mod Heard
pub mod Tails
