pub mod SpinCharges
pub mod SpinPrograms
