pub mod Kinds
pub mod Records
pub mod Proper
pub mod Props
pub mod Exports
pub mod Logged
pub mod Printed
pub mod Examples
