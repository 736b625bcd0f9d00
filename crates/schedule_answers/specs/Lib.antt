pub mod TaskAnswers
pub mod Conforming
pub mod Tests
pub mod Failures
