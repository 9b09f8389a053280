pub mod Directory
pub mod Fields
pub mod Record
pub mod Inner
pub mod Theorems
