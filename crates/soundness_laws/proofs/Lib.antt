pub mod HigherTasks
pub mod FirstMiss
pub mod Soundness
pub mod Instances
pub mod ProtocolSoundness
pub mod MeasuresKept
pub mod WorkedSet
pub mod LateSet
