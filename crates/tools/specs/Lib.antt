pub mod Tools
pub mod Props
pub mod Names
pub mod Machines
