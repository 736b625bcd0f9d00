pub mod Mapped
pub mod Finding
pub mod Filtered
pub mod Ranges
pub mod Acceptance
pub mod Laws
pub mod Kept
