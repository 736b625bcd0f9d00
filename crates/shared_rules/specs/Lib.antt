pub mod RowTests
pub mod Blocked
pub mod Given
