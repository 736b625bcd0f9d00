pub mod Figures
pub mod Audited
