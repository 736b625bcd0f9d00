pub mod Sound
pub mod Analyses
pub mod Worked
