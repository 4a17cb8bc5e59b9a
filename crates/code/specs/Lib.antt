pub mod Meaning
pub mod Refusal
pub mod Calls
pub mod Bare
pub mod EveryWord
