mod Passing
mod PassedNext
mod TallyLaws
mod CountedAlike
pub mod Places
mod Pushing
mod TableLaws
mod RowsMet
mod TableSums
