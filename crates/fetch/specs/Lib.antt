pub mod Gathers
