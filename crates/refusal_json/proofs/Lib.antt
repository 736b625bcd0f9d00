pub mod Examples
pub mod SmallPoints
pub mod ValueLaws
pub mod ReadBack
