pub mod Sums
pub mod Beside
pub mod Walked
pub mod Given
