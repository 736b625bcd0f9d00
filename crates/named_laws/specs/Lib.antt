pub mod Named
pub mod Audited
