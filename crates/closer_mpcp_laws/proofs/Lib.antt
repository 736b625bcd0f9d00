pub mod LowerWaits
pub mod SharedIntervals
pub mod SharedHoldings
pub mod AwayHoldings
pub mod FurtherRows
pub mod RowsMet
