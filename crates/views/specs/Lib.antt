pub mod Views
pub mod Fields
pub mod Versions
pub mod Theorems
