pub mod RunLaws
pub mod Stretches
pub mod Reaching
