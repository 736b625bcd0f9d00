pub mod ChosenRows
pub mod EachName
pub mod OneJob
