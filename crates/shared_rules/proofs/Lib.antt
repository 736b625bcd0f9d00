pub mod Loops
pub mod Currents
pub mod RunTest
pub mod HolderTests
pub mod ReadyTests
pub mod Verdict
pub mod Blocked
