pub mod Form
pub mod Written
pub mod Ranges
pub mod Answers
pub mod Value
pub mod Text
