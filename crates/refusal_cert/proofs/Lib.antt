pub mod PointLaws
pub mod OneEnding
pub mod RoundSteps
pub mod Led
pub mod RunLaws
pub mod AnswerLaws
pub mod Analyses
