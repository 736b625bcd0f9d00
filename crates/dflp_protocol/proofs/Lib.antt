pub mod Issues
pub mod Verdict
pub mod Chosen
pub mod NextRow
pub mod FewRows
pub mod WorkedSchedule
