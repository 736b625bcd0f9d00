mod SharedNow
mod DistributedNow
pub mod Uncharged
