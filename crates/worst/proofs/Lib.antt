pub mod Places
pub mod Placing
pub mod Orders
pub mod WorstSteps
pub mod OneList
