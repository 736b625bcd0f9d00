pub mod Granting
pub mod Placing
pub mod Scenes
pub mod Walks
pub mod Filling
pub mod Chosen
pub mod Writing
pub mod NextRow
