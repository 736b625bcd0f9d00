pub mod Members
pub mod Size
pub mod Form
pub mod FormFaults
pub mod Seen
pub mod Written
pub mod Answers
