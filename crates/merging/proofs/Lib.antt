pub mod Taking
pub mod Writing
pub mod Turns
pub mod Merged
pub mod Heading
pub mod Stepping
pub mod Both
pub mod Theorems
