pub mod Ways
pub mod Walks
pub mod Trails
pub mod Rising
pub mod WalkRounds
pub mod Answers
