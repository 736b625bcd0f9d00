pub mod KeptWindows
pub mod MpcpWindows
pub mod WaitRows
pub mod Worked
