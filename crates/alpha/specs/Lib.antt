pub mod Alphabet
pub mod Reads
pub mod Writes
pub mod Calls
pub mod Printed
pub mod Passes
pub mod Bodies
pub mod Examples
