pub mod Divisors
pub mod Sums
pub mod Tests
pub mod WholeSums
