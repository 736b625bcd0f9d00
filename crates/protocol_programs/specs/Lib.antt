pub mod Given
pub mod Limits
