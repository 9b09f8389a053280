pub mod Told
pub mod Writes
pub mod Body
