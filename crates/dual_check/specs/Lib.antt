pub mod Answers
pub mod Lacks
pub mod Soundness
pub mod Given
