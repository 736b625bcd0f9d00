pub mod SpinRules
