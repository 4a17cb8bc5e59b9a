pub mod Words
pub mod Costs
pub mod Stretching
pub mod Randomizing
pub mod Returning
pub mod Walking
pub mod Reach
pub mod Worked
