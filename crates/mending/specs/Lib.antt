pub mod Mends
pub mod Unmends
pub mod Printed
pub mod Places
