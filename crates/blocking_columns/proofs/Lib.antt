pub mod KnownColumns
pub mod KeptNumbers
mod UsedColumns
mod UsedRequests
mod Paths
pub mod Order
pub mod Beginnings
mod LinkPaths
pub mod TaskPlaces
mod Rivals
mod Parts
mod HomeCounts
mod SharedColumns
