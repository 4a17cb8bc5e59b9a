pub mod Allowed
pub mod Refusal
pub mod Made
pub mod Lengths
