mod WordLaws
pub mod SpelledLaws
