pub mod Constraints
pub mod RowStretch
pub mod Given
pub mod Taking
pub mod NonzeroCoefficients
pub mod SparseTaking
