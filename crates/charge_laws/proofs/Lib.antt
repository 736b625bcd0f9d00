pub mod SharedCharging
pub mod DpcpCharging
pub mod Windows
pub mod Interference
pub mod Counting
pub mod Stretches
pub mod ChargeExamples
