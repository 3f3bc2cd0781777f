pub mod Printed
pub mod Examples
pub mod Asks
