pub mod FullTable
pub mod Examples
