pub mod Digits
pub mod Markers
pub mod Differences
