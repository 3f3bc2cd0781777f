pub mod Book
pub mod Picture
pub mod Cells
pub mod Changed
pub mod Calls
