pub mod Refuting
pub mod Steps
pub mod Leading
pub mod Answers
