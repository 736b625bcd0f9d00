pub mod Scripts
pub mod Arrivals
pub mod KeptSegmentLaws
pub mod KeptJobLaws
mod KeptViewLaws
pub mod JobListLaws
pub mod JobRefusalLaws
pub mod RowListLaws
pub mod RuleTests
pub mod KeepingTests
pub mod DpcpTests
pub mod ChoiceTests
pub mod WorkedFiles
pub mod JobExamples
pub mod SharedExamples
pub mod JitterExamples
pub mod DpcpExamples
