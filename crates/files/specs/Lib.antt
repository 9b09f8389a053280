pub mod CrossReference
pub mod Control
pub mod NamedBytes
pub mod Inner
pub mod Rows
