pub mod Flow
pub mod LineReads
pub mod Holds
