pub mod Standing
pub mod Rising
pub mod Results
pub mod Following
pub mod Timing
pub mod Ruling
pub mod Settled
