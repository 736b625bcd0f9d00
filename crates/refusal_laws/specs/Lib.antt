pub mod Steps
pub mod Seen
