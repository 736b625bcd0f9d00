pub mod Statuses
pub mod Known
pub mod RefusalDef
pub mod RefusalSeen
pub mod Inputs
pub mod Halts
pub mod Got
