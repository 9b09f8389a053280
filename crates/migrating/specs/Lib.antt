pub mod Migrate
pub mod Readings
pub mod Theorems
