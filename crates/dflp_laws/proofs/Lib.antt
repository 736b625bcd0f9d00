pub mod Laws
pub mod Agreement
pub mod Stretches
pub mod Turns
pub mod Placement
pub mod Programs
pub mod Points
pub mod Soundness
