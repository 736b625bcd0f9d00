pub mod Programs
pub mod Written
pub mod Worked
