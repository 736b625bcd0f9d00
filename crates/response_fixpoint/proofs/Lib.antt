pub mod VectorLaws
pub mod LeastFixpoint
pub mod LeastExists
pub mod RoundLaws
pub mod OneEnd
pub mod EmptyRuns
pub mod WrittenLaws
pub mod RunLaws
pub mod EndLaws
pub mod PlaceLaws
mod SharingLaws
pub mod SolutionLaws
pub mod AnswerLaws
pub mod WorkedRounds
