pub mod Joined
pub mod Simulated
pub mod Choosing
pub mod Writing
