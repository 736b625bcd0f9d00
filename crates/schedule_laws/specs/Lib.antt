pub mod Agreement
pub mod ProtocolFacts
pub mod LocalRuns
pub mod Counting
pub mod Steady
