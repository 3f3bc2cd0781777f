pub mod Says
pub mod Acts
pub mod Asks
