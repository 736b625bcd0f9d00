pub mod Counts
pub mod Measured
