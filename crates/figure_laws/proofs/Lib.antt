pub mod AddUp
pub mod AllInside
