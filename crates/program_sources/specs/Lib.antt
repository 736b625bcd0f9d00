pub mod Recurrence
pub mod Fitting
pub mod Valid
