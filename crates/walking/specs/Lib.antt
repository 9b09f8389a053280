pub mod Walker
pub mod Walk
pub mod Inner
