pub mod Generator
pub mod Sets
pub mod Drawn
pub mod Counts
pub mod Tallies
