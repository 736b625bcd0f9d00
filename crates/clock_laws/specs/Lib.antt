pub mod Cycles
pub mod Whole
pub mod Rounding
pub mod Clock
pub mod Worked
