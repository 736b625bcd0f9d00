pub mod LeastLaws
