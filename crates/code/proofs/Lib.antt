pub mod Passed
pub mod Reach
