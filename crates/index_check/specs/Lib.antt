pub mod Walk
pub mod Sound
pub mod Passes
pub mod Theorems
