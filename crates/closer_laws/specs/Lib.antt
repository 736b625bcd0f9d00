pub mod CloserRows
