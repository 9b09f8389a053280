pub mod Key
pub mod Term
pub mod Inner
