pub mod Analysed
pub mod Refuted
