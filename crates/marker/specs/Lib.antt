pub mod Marker
pub mod Reading
pub mod Theorems
