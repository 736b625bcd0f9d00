pub mod Windows
pub mod Times
pub mod Amounts
pub mod Served
pub mod Given
