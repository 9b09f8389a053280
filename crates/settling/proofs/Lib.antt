pub mod Folding
pub mod Lowest
pub mod Theorems
