pub mod Accepted
pub mod Coefficients
pub mod Duality
mod Listings
mod Lists
pub mod Points
mod RowCuts
mod SevenRowsWorked
pub mod Elimination
pub mod Greatest
