pub mod Rows
pub mod Programs
pub mod FewRows
pub mod Lone
pub mod Points
pub mod Sound
