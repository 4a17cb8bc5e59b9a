pub mod Form
pub mod Figures
pub mod Line
pub mod Answers
pub mod Language
pub mod Reading
