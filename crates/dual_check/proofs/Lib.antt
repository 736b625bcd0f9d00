pub mod PassLaws
pub mod CappedSums
pub mod Lacking
pub mod WorthLaws
pub mod Verdicts
pub mod Steps
