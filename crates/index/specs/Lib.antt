pub mod Files
pub mod Lent
pub mod Shape
pub mod Layout
pub mod Rules
pub mod Lookup
pub mod Inner
pub mod Reading
