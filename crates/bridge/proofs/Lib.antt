pub mod Bridge
pub mod Contracts
pub mod Bursts
pub mod Separation
