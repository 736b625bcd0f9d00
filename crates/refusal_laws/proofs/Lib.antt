pub mod StepLaws
pub mod NothingFits
