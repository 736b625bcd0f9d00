pub mod Texts
pub mod Refusals
pub mod Failing
pub mod Refuted
