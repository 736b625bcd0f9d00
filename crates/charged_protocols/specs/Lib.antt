pub mod Seen
pub mod ChargeNow
pub mod Given
pub mod Points
