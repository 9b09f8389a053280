pub mod Draft
pub mod Lent
pub mod Bytes
pub mod Inner
