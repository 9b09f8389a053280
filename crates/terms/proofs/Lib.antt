pub mod Order
pub mod Chunks
pub mod Padding
pub mod Ascending
