pub mod Amounts
pub mod Given
pub mod Holdings
pub mod Rows
pub mod Steady
pub mod Sums
pub mod Tables
pub mod Windows
