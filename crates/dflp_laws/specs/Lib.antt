pub mod Rules
pub mod Programs
