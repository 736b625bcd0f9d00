pub mod InRequests
pub mod SpinFacts
pub mod SpinLaws
pub mod SpinAgreement
pub mod SpinStretches
pub mod SpinChoice
pub mod SpinTests
pub mod SpinExamples
