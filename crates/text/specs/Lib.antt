pub mod Sizes
pub mod Frames
pub mod Calls
pub mod Prints
pub mod Telling
