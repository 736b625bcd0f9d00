pub mod Replying
pub mod Edge
