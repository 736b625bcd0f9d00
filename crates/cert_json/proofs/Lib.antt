pub mod Examples
pub mod FormLaws
pub mod SmallDuals
pub mod LineEnd
pub mod PlainTexts
pub mod ValueLaws
pub mod ReadBack
pub mod DigestBytes
pub mod DigestTexts
mod DigestExamples
