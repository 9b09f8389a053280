pub mod Keys
pub mod Passing
pub mod Sound
pub mod Held
pub mod Meeting
pub mod Theorems
pub mod Checking
