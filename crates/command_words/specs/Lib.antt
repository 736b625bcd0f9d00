pub mod Words
pub mod FormSeen
pub mod Spelled
