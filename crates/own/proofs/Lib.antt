pub mod Replies
pub mod Sends
pub mod Events
pub mod Telling
pub mod Settled
