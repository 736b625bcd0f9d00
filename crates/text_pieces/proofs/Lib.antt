mod Numbers
pub mod Lines
