pub mod FewRows
mod UsedTicks
