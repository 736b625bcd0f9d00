pub mod Walks
pub mod Scene
pub mod Given
pub mod Choosing
pub mod Filling
pub mod NextRow
