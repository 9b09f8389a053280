pub mod Sound
pub mod Passes
pub mod Touching
pub mod Recount
