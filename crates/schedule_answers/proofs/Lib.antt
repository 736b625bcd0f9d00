pub mod FailureLaws
