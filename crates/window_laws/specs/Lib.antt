pub mod Windows
pub mod WindowRows
pub mod Worked
