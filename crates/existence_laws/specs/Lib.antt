pub mod Existing
