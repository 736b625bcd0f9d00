pub mod OneItem
pub mod TableSums
pub mod Together
pub mod Adding
pub mod Lawful
