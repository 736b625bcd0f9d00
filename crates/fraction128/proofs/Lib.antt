pub mod Reduced
pub mod Unique
pub mod Products
pub mod GivesLemmas
pub mod OrderLemmas
pub mod Forms
pub mod ScalingLemmas
pub mod OddParts
