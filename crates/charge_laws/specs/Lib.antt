pub mod Stretches
pub mod Charges
pub mod Windows
pub mod Interferers
pub mod Fractions
pub mod ChargedTicks
pub mod ByProtocol
