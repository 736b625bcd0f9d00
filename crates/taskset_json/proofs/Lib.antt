pub mod Examples
pub mod Lists
pub mod Tokens
pub mod Grammar
pub mod Sizes
pub mod Views
pub mod Places
pub mod FormRelation
