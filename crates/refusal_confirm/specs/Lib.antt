pub mod Tests
pub mod Faults
pub mod Parts
pub mod Walks
pub mod Batches
pub mod Given
pub mod Sums
