pub mod RowTests
pub mod NextRow
pub mod Queues
