pub mod NamedPlaces
pub mod ChosenRows
pub mod Runs
pub mod WrittenRows
mod JoinedExamples
pub mod JoinedRuns
pub mod OneSchedule
