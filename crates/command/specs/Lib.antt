pub mod Plans
pub mod Surveys
pub mod Requests
