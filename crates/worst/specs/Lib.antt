pub mod Noted
pub mod List
pub mod Place
pub mod Order
pub mod Worst
