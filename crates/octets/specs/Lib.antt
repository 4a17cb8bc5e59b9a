pub mod Counting
pub mod Octets
pub mod Words
