pub mod Runs
pub mod LawfulRow
pub mod NextStretch
pub mod Reached
pub mod Walked
pub mod Given
