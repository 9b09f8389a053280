pub mod Merge
pub mod Calls
pub mod Theorems
pub mod Heads
