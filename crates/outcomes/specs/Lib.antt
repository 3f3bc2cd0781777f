pub mod Determined
pub mod Settles
pub mod Claims
