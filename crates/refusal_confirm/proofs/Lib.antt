pub mod Capped
pub mod RowSums
pub mod SeenLaws
pub mod PartLaws
pub mod WalkLaws
pub mod FaultLaws
pub mod BatchLaws
