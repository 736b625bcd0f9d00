pub mod Tables
pub mod Groups
pub mod Together
pub mod Closer
