pub mod Table
pub mod FullTable
