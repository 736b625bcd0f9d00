mod Quotients
mod Entering
mod Rows
mod SeenRows
mod Written
mod FirstTables
mod LeastPlaces
mod LeastRows
mod Choosing
mod Takings
mod Runs
mod Exchanging
mod RoundedNumbers
mod Denominators
pub mod Ends
mod Answering
mod BestEnds
pub mod OneEnd
mod RoundedTotals
