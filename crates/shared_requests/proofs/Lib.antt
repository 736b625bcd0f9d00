pub mod HeldUp
