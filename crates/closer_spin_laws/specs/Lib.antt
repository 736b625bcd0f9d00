pub mod CloserSpinRows
